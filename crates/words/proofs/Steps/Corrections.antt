-- Errors are added to a word one after the other; what `correct_outer` answers, on each way through it. Assumes nothing.
use mathlib.Core.Path.{◌≡◌, refl, sym, ap, ◌∙◌}
use mathlib.Core.Bool.{Bool, true, false, not, cond}
use mathlib.Core.List.{List}
use Prim.Native.Nat.{ℕ, ◌+◌, ◌≤◌, ◌<◌}
use native.Mathlib.Decide.{ℕ_discrete}
use native.Mathlib.Numerals.{add-one}
use native.Mathlib.Omega.{arith}
use borrow.Author.Tests.{eq-eqb, eqb-true, le-leb, ne_eqb, not-false, not-true}
use lib.Dec.{eqb, lit<}
use lib.ListN.{length, get_or, set, length-set}
use lib.Seq.{get_or-set_same, get_or-set_other}
use Rattle.fields.specs.Steps.Buffers.{copied}
use Rattle.fields.specs.Elements.{xor, powers_a, exponents_a}
use Rattle.fields.specs.Places.{at, all_below}
use Rattle.fields.proofs.Instances.{field_a}
use Rattle.fields.proofs.Lists.{tabulate_is, tabulate_same}
use Rattle.fields.proofs.Xor.{xor_assoc, xor_zero_r}
use Rattle.fields.proofs.Places.Tests.{below_at, below_all}
use Rattle.decoding.specs.Steps.ByTables.{root_values}
use Rattle.decoding.specs.Steps.Decoder.{Tables, xor_to, error_at, Decoded, weight_between, with_error, with_errors}
use Rattle.decoding.proofs.Steps.Symbols.{copied_same}
use Rattle.decoding.proofs.Algebra.Tables.{powers_length}
use Rattle.decoding.proofs.Decoding.Changes.{errors_length, errors_at}
use Rattle.words.specs.declared.Refusal.{Refusal}
use Rattle.words.specs.Corrections.{number, Correction, Corrected, Refused}
use Rattle.words.specs.Answers.{refusal, within, found, corrected, outer_corrected}
use Rattle.words.specs.Steps.Division.{outer_remainder}
use Rattle.words.specs.Steps.SixSymbols.{Packs, unpacked}
use Rattle.words.proofs.Decoding.ReedSolomon.{tables_of, symbols_changed, symbols_found, symbols_lost}
use Rattle.words.proofs.Steps.Joining.{root_values_made}
use Rattle.words.proofs.Steps.Entries.{some_number, passed}

-- v is added to the symbol at place i
module _ (out : List ℕ) (i v : ℕ) where
  pub added_here : (r : ℕ) → i < length out → r ≡ xor (get_or out i 0) v → set out i r ≡ with_error out i v
  unfolding with_error
  added_here r b e = tabulate_is (length out) _ (set out i r) 0 (length-set out i r) (λ l h. go l (ℕ_discrete l i))
    where
      go : (l : ℕ) → Dec (l ≡ i) → get_or (set out i r) l 0 ≡ xor (get_or out l 0) (cond (eqb i l) v 0)
      go l (yes q) = rw (q, eq-eqb i i refl) (get_or-set_same out i r 0 b ∙ e)
      go l (no q) = rw (ne_eqb i l (λ h. q (sym h)), xor_zero_r) (get_or-set_other out i l r 0 q)

  pub added_past : length out ≤ i → out ≡ with_error out i v
  unfolding with_error
  added_past b = tabulate_is (length out) _ out 0 refl (λ l h. rw (ne_eqb i l (λ q. omega arith), xor_zero_r))

-- the word with the first k errors added
unfoldable pub errors_added : List ℕ → List ℕ → List ℕ → ℕ → List ℕ
errors_added w places values k = with_errors (at w) places values k (length w)

module _ (w places values out : List ℕ) where
  pub errors_start : (buffer : List ℕ) → length buffer ≡ length w → out ≡ copied w buffer → out ≡ errors_added w places values 0
  unfolding errors_added with_errors error_at xor_to
  errors_start buffer long e = e ∙ copied_same w buffer long ∙ tabulate_is (length w) _ w 0 refl (λ i l. sym (xor_zero_r (at w i)))

  module _ (k : ℕ) (so_far : out ≡ errors_added w places values k) where
    long : length out ≡ length w
    unfolding errors_added
    long = ap length so_far ∙ errors_length places values (length w) k (at w)

    -- the buffer keeps its length
    pub errors_fit : (buffer : List ℕ) → length buffer ≡ length w → length out ≡ length buffer
    errors_fit buffer e = long ∙ sym e

    pub errors_next : (next : List ℕ) → next ≡ with_error out (get_or places k 0) (get_or values k 0) → next ≡ errors_added w places values (k + 1)
    unfolding errors_added with_error with_errors error_at xor_to
    errors_next next e =
        rw (add-one, ← long)
        (e ∙ tabulate_same (length out) _ _ (λ i l. let added = cond (eqb (at places k) i) (at values k) 0 in
        ap (λ (o : List ℕ). xor (at o i) added) so_far ∙ ap (λ (x : ℕ). xor x added) (errors_at places values (length w) k (at w) i (rw long at l)) ∙ xor_assoc (at w i) _ added))

    pub errors_end : (n : ℕ) → k ≤ n → n ≤ k → out ≡ with_errors (at w) places values n (length w)
    unfolding errors_added
    errors_end n l h = let e : k ≡ n = omega arith in rw e at so_far

-- ---- outer words

pub tables_given : (es ls : List ℕ) → es ≡ powers_a → ls ≡ exponents_a → Tables es ls
tables_given es ls exp log = rw (exp, log) (tables_of 10 1033 field_a)

pub correct_outer_refused : (w o : List ℕ) (e : Refusal) → number e ≡ refusal (within 17 1023 (length w)) (eqb (length o) (length w)) (all_below 1024 w) →
    ◌≡◌ {A = Correction × List ℕ} (Refused (number e), o) (outer_corrected w o)
unfolding outer_corrected corrected
correct_outer_refused w o e told = rw (← told, ne_eqb (number e) 0 (some_number e))

module _ (w o : List ℕ) (r : ℕ) (told : r ≡ refusal (within 17 1023 (length w)) (eqb (length o) (length w)) (all_below 1024 w)) where
  pub correct_outer_fits : r ≡ 0 → length o ≡ length w
  correct_outer_fits none = eqb-true _ _ (passed _ _ _ (sym told ∙ none)).1

-- a word that is not refused
module _ (w o : List ℕ) (least : 17 ≤ length w) (most : length w ≤ 1023) (symbols : all_below 1024 w ≡ true) (fits : length o ≡ length w) where
  accepted : refusal (within 17 1023 (length w)) (eqb (length o) (length w)) (all_below 1024 w) ≡ 0
  unfolding refusal within
  accepted = rw (le-leb 17 (length w) least, le-leb (length w) 1023 most, eq-eqb (length o) (length w) fits, symbols)

  module _ (es ls : List ℕ) (exp : es ≡ powers_a) (log : ls ≡ exponents_a) where
    pub word_fits : length w ≤ length es
    word_fits = let l : length es ≡ 1023 = ap length exp ∙ powers_length 10 1033 field_a in omega arith

    module _ (h m l : ℕ) (p : Packs h m l (outer_remainder w)) (t : List ℕ) (v : t ≡ root_values powers_a exponents_a (unpacked h m l)) (places values : List ℕ) (count : ℕ)
        (left : List ℕ) (D : Decoded es ls t (length w) places values count left) (b : Bool) where
      D' : Decoded powers_a exponents_a (root_values powers_a exponents_a w) (length w) places values count left
      D' = rw (root_values_made w (omega arith) symbols h m l p powers_a exponents_a t refl refl v, exp, log) at D

      -- what is not below q, for any q above 0, is not all zero
      some_left : (q : ℕ) → 0 < q → all_below q left ≡ false → all_below 1 left ≡ false
      some_left q h f = go (all_below 1 left) refl
        where
          go : (z : Bool) → all_below 1 left ≡ z → z ≡ false
          go false e = refl
          go true e = sym (below_all q left (λ i l. omega (arith, below_at 1 left (lit< tt) e i))) ∙ f

      pub correct_outer_lost : (q : ℕ) → 0 < q → b ≡ all_below q left → length left ≡ 16 → not b ≡ true → ◌≡◌ {A = Correction × List ℕ} (Refused 5, o) (outer_corrected w o)
      unfolding outer_corrected corrected found
      correct_outer_lost q h test long n = rw (accepted, symbols_lost 10 1033 field_a w symbols places values count left D' long (some_left q h (sym test ∙ not-true b n)))

      pub correct_outer_found : b ≡ all_below 1 left → not b ≡ false → (out : List ℕ) → out ≡ with_errors (at w) places values count (length w) → (changed : ℕ) → changed ≡ weight_between 0 (length w) places values count →
          ◌≡◌ {A = Correction × List ℕ} (Corrected changed, out) (outer_corrected w o)
      unfolding outer_corrected corrected found
      correct_outer_found test n out e changed c =
          let zero : all_below 1 left ≡ true = sym test ∙ not-false b n in
          rw (accepted, symbols_found 10 1033 field_a w symbols places values count left D' zero (omega arith), symbols_changed 10 1033 field_a w symbols places values count left D' zero, e, c)
