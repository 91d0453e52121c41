-- The errors that the decoder finds in a word, added to its bytes in a block. Assumes nothing.
use mathlib.Core.Path.{◌≡◌, refl, sym, ap, ap₂, ◌∙◌}
use mathlib.Core.Bool.{Bool, true, false, not, cond}
use mathlib.Core.List.{List}
use Prim.Native.Nat.{ℕ, zero, suc, ◌+◌, ◌*◌, ◌/◌, ◌%◌, ◌≤◌, ◌<◌}
use native.Mathlib.Decide.{ℕ_discrete}
use native.Mathlib.Nat.{le_refl}
use native.Mathlib.Omega.{arith}
use borrow.Author.Tests.{eq-eqb, ne_eqb, not-false, not-true}
use lib.Dec.{eqb}
use lib.ListN.{length}
use Rattle.fields.specs.Elements.{xor, powers_c, exponents_c}
use Rattle.fields.specs.Places.{at, all_below}
use Rattle.fields.proofs.Instances.{field_c}
use Rattle.fields.proofs.Lists.{tabulate_at, tabulate_is, tabulate_same}
use Rattle.fields.proofs.Xor.{xor_zero_r}
use Rattle.fields.proofs.Places.Filling.{Filled, filled_end}
use Rattle.decoding.specs.declared.error_values.Errors.{Errors}
use Rattle.decoding.specs.Steps.ByTables.{root_values}
use Rattle.decoding.specs.Steps.Decoder.{Tables, xor_to, error_at, Decoded, weight_between, with_error, with_errors}
use Rattle.decoding.proofs.Algebra.Tables.{powers_length, exponents_length}
use Rattle.decoding.proofs.Decoding.Changes.{errors_at, weight_most}
use Rattle.words.specs.Corrections.{Correction, Corrected, Refused}
use Rattle.words.specs.Answers.{found}
use Rattle.words.proofs.Decoding.ReedSolomon.{tables_of, symbols_changed, symbols_found, symbols_lost}
use Rattle.words.proofs.Steps.Corrections.{errors_added, errors_next}
use Rattle.g709.specs.Rows.{received_bytes, bytes_restored}
use Rattle.g709.specs.Steps.Restoring.{word_of, byte_place, lane_of, standing, values_added, ByteValues, WordErrors, word_stored, word_corrected}
use Rattle.g709.proofs.Rows.{word_to_row, received_length}

-- ---- adding values

standing_at : (from : ℕ) (places : List ℕ) (l : ℕ) → l < 8 → at (standing from places) l ≡ from + 16 * at places l
unfolding standing
standing_at from places l h = tabulate_at 8 _ l 0 h

pub values_start : (o : List ℕ) (from : ℕ) (places values : List ℕ) → o ≡ values_added o from places values 0
unfolding values_added with_errors error_at xor_to
values_start o from places values = tabulate_is (length o) _ o 0 refl (λ i l. sym (xor_zero_r (at o i)))

pub values_next : (o : List ℕ) (from : ℕ) (places values : List ℕ) (k i n : ℕ) (out next : List ℕ) → out ≡ values_added o from places values k →
    next ≡ with_error out i (at values k) → i ≡ from + 16 * at places k → k < n → n ≤ 8 → next ≡ values_added o from places values (k + 1)
unfolding values_added errors_added
values_next o from places values k i n out next so_far e there l few =
    errors_next o (standing from places) values out k so_far next (e ∙ ap (λ (i : ℕ). with_error out i (at values k)) (there ∙ sym (standing_at from places k (omega arith))))

pub lane_end : (rest : List ℕ) (k : ℕ) (cells : List ℕ) (i : ℕ) → Filled 16 (λ j. at rest (16 * j + k)) i cells → 16 ≤ i → cells ≡ lane_of rest k
unfolding lane_of
lane_end rest k cells i h l = filled_end h l

-- ---- the places of a word in a block

pub word_of_lem : (r k s : ℕ) → k < 16 → s < 255 → word_of (4080 * r + k + 16 * s) ≡ 16 * r + k
unfolding word_of
word_of_lem r k s hk hs = omega arith

pub place_of : (r k s : ℕ) → k < 16 → s < 255 → byte_place (4080 * r + k + 16 * s) ≡ s
unfolding byte_place
place_of r k s hk hs = omega arith

pub place_lt : (i : ℕ) → byte_place i < 255
unfolding byte_place
place_lt i = omega arith

pub standing_there : (i r k : ℕ) → k < 16 → word_of i ≡ 16 * r + k → i ≡ 4080 * r + k + 16 * byte_place i
unfolding word_of byte_place
standing_there i r k hk e =
    let q : i / 4080 ≡ r = omega arith in
    let m : i % 16 ≡ k = omega arith in
    let p : i % 4080 % 16 ≡ i % 16 = omega arith in
    omega arith

error_inside : (from : ℕ) (places values : List ℕ) (k s : ℕ) → k ≤ 8 → error_at (standing from places) values k (from + 16 * s) ≡ error_at places values k s
unfolding error_at xor_to
error_inside from places values zero s h = refl
error_inside from places values (suc k) s h =
    ap₂ xor (error_inside from places values k s (omega arith)) (ap (λ (b : Bool). cond b (at values k) 0) (go (ℕ_discrete (at places k) s)))
  where
    go : Dec (at places k ≡ s) → eqb (at (standing from places) k) (from + 16 * s) ≡ eqb (at places k) s
    go (yes e) = eq-eqb _ (from + 16 * s) (standing_at from places k (omega arith) ∙ ap (λ (p : ℕ). from + 16 * p) e) ∙ sym (eq-eqb (at places k) s e)
    go (no n) = ne_eqb _ (from + 16 * s) (λ e. n (omega (arith, standing_at from places k (omega arith)))) ∙ sym (ne_eqb (at places k) s n)

error_outside : (from : ℕ) (places values : List ℕ) (k i : ℕ) → k ≤ 8 → ((l : ℕ) → l < k → from + 16 * at places l ≡ i → ⊥) → error_at (standing from places) values k i ≡ 0
unfolding error_at xor_to
error_outside from places values zero i h other = refl
error_outside from places values (suc k) i h other =
    ap₂ xor (error_outside from places values k i (omega arith) (λ l b. other l (omega arith)))
    (ap (λ (b : Bool). cond b (at values k) 0) (ne_eqb _ i (λ e. other k (le_refl (suc k)) (sym (standing_at from places k (omega arith)) ∙ e))))
    ∙ xor_zero_r 0

-- a block with values added to bytes of a word is the block with the corrected word in its place
module _ (o : List ℕ) (r k : ℕ) (hk : k < 16) (places values : List ℕ) (count : ℕ) (few : count ≤ 8) (below : (l : ℕ) → l < count → at places l < 255) where
  abbrev W : List ℕ
  W = received_bytes o (16 * r + k)

  abbrev C : List ℕ
  C = with_errors (at W) places values count 255

  inside : (i : ℕ) → word_of i ≡ 16 * r + k → xor (at o i) (error_at (standing (4080 * r + k) places) values count i) ≡ at C (byte_place i)
  inside i e =
      let s = byte_place i in
      let there : i ≡ 4080 * r + k + 16 * s = standing_there i r k hk e in
      let byte : at W s ≡ at o i = word_to_row o r k s hk (place_lt i) ∙ ap (at o) (omega arith) in
      ap₂ xor (sym byte) (ap (error_at (standing (4080 * r + k) places) values count) there ∙ error_inside (4080 * r + k) places values count s few)
      ∙ sym (errors_at places values 255 count (at W) s (place_lt i))

  outside : (i : ℕ) → (word_of i ≡ 16 * r + k → ⊥) → xor (at o i) (error_at (standing (4080 * r + k) places) values count i) ≡ at o i
  outside i other =
      ap (xor (at o i)) (error_outside (4080 * r + k) places values count i few (λ l b e. other (ap word_of (sym e) ∙ word_of_lem r k (at places l) hk (below l b)))) ∙ xor_zero_r (at o i)

  pub word_stored_lem : values_added o (4080 * r + k) places values count ≡ word_stored o (16 * r + k) (with_errors (at (received_bytes o (16 * r + k))) places values count 255)
  unfolding values_added with_errors word_stored
  word_stored_lem = tabulate_same (length o) _ _ (λ i l. go i (ℕ_discrete (word_of i) (16 * r + k)))
    where
      go : (i : ℕ) → Dec (word_of i ≡ 16 * r + k) →
          xor (at o i) (error_at (standing (4080 * r + k) places) values count i) ≡ cond (eqb (word_of i) (16 * r + k)) (at C (byte_place i)) (at o i)
      go i (yes e) = inside i e ∙ sym (ap (λ (b : Bool). cond b (at C (byte_place i)) (at o i)) (eq-eqb (word_of i) (16 * r + k) e))
      go i (no n) = outside i n ∙ sym (ap (λ (b : Bool). cond b (at C (byte_place i)) (at o i)) (ne_eqb (word_of i) (16 * r + k) n))

-- ---- what is answered for a word

pub tables_given : (es ls : List ℕ) → es ≡ powers_c → ls ≡ exponents_c → Tables es ls
tables_given es ls exp log = rw (exp, log) (tables_of 8 285 field_c)

pub word_fits : (es : List ℕ) → es ≡ powers_c → 255 ≤ length es
word_fits es exp = let l : length es ≡ 255 = ap length exp ∙ powers_length 8 285 field_c in omega arith

module _ (o : List ℕ) (r k : ℕ) (hk : k < 16) (e : Errors) (E : WordErrors (received_bytes o (16 * r + k)) e) (b : Bool) (test : b ≡ all_below 1 e.left) where
  abbrev received : List ℕ
  received = received_bytes o (16 * r + k)

  abbrev places : List ℕ
  places = e.places.at

  abbrev values : List ℕ
  values = e.values

  abbrev count : ℕ
  count = e.places.count

  abbrev left : List ℕ
  left = e.left

  long : length received ≡ 255
  long = received_length o (16 * r + k)

  D : Decoded powers_c exponents_c (root_values powers_c exponents_c received) (length received) places values count left
  D = rw long E.decoded

  pub word_lost : length e.left ≡ 16 → not b ≡ true → ◌≡◌ {A = Correction × List ℕ} (Refused 5, o) (word_corrected o (16 * r + k))
  unfolding word_corrected bytes_restored found
  word_lost full n = rw (symbols_lost 8 285 field_c received E.bytes places values count left D full (sym test ∙ not-true b n))

  pub word_found : not b ≡ false → (out : List ℕ) → out ≡ values_added o (4080 * r + k) e.places.at e.values e.places.count → (changed : ℕ) →
      changed ≡ weight_between 0 255 e.places.at e.values e.places.count → ◌≡◌ {A = Correction × List ℕ} (Corrected changed, out) (word_corrected o (16 * r + k))
  unfolding word_corrected bytes_restored found
  word_found n out added changed c =
      let zero : all_below 1 left ≡ true = sym test ∙ not-false b n in
      let near = symbols_found 8 285 field_c received E.bytes places values count left D zero (omega (arith, long)) in
      let same = symbols_changed 8 285 field_c received E.bytes places values count left D zero in
      rw (near, same, long, added, c, word_stored_lem o r k hk places values count E.decoded.few E.decoded.below)

  pub few_errors : e.places.count ≤ 8
  few_errors = E.decoded.few

  pub byte_values : ByteValues e.values e.places.count
  byte_values = record { small = λ l h. let lt : at values l < length exponents_c = E.decoded.elements l h in omega (arith, exponents_length 8 285 field_c) }

  pub few_changed : (changed : ℕ) → changed ≡ weight_between 0 255 e.places.at e.values e.places.count → changed ≤ 8
  few_changed changed c = omega (arith, weight_most places values 0 255 count, E.decoded.few)
