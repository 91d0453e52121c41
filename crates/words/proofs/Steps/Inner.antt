-- The ways through the functions that decode an inner word, and a step of each of their loops. Assumes nothing.
use mathlib.Core.Path.{◌≡◌, refl, sym, ap, ap₂, ◌∙◌}
use mathlib.Core.Bool.{Bool, true, false, not, cond}
use mathlib.Core.List.{List}
use Prim.Native.Nat.{ℕ, zero, suc, ◌+◌, ◌-◌, ◌*◌, ◌/◌, ◌%◌, ◌^◌, ◌≤◌, ◌<◌}
use native.Mathlib.Decide.{ℕ_discrete}
use native.Mathlib.Nat.{mul-le-mul_right, not-suc-le-zero}
use native.Mathlib.Numerals.{add-one}
use native.Mathlib.Omega.{arith}
use borrow.Author.Tests.{eq-eqb, ne_eqb, eqb-true, not-true, not-false}
use lib.Bits.{bit_xor}
use lib.Dec.{eqb}
use lib.ListN.{length, get_or, set, replicate, length-set}
use lib.Seq.{get_or-set_same, get_or-set_other}
use mir.Syntax.{w16, w64}
use mir.Val.{Fits}
use Rattle.fields.specs.Steps.Buffers.{copied}
use Rattle.fields.specs.Elements.{xor, powers_b, exponents_b}
use Rattle.fields.specs.Steps.ByTables.{table_product, table_power}
use Rattle.fields.specs.Lists.{tabulate}
use Rattle.fields.specs.Places.{at, every, all_below, differs}
use Rattle.fields.proofs.Instances.{field_b}
use Rattle.fields.proofs.Lists.{tabulate_at, tabulate_same}
use Rattle.fields.proofs.Xor.{xor_zero_r, xor_assoc, xor_high, xor_bit}
use Rattle.fields.proofs.Places.Filling.{Filled, filled_next, filled_end}
use Rattle.fields.proofs.Places.Tests.{every_at, every_false}
use Rattle.decoding.specs.Steps.Decoder.{Tables, locator, xor_to, error_at, Decoded, with_errors}
use Rattle.decoding.proofs.Steps.Symbols.{copied_same}
use Rattle.decoding.proofs.Algebra.Tables.{powers_length, tables_b}
use Rattle.words.specs.Bits.{bit_of, bit_at, bits_of}
use Rattle.words.specs.InnerCode.{divisor, remainder}
use Rattle.words.specs.Steps.InnerDecoding.{powers_value, odd_syndromes, plus_term, Syndromes, is_bit, is_binary, flips, ErrorsOf, InnerErrors, inverted, explains}
use Rattle.words.proofs.Decoding.Inner.{flip_at}

-- coefficient k of 88, the highest first
pub coefficient_made : (x k : ℕ) → k < 88 → x / 2 ^ (88 - 1 - k) % 2 ≡ bit_of 88 x k
unfolding bit_of
coefficient_made x k h = let same : 88 - 1 - k ≡ 88 - suc k = omega arith in ap (λ (z : ℕ). x / 2 ^ z % 2) same

-- exponents, and bits times powers, are numbers of 16 bits
pub exponent_fits : (j i : ℕ) → j < 8 → i < 88 → (2 * j + 1) * i < 65536
exponent_fits j i hj hi = let l : (2 * j + 1) * i ≤ 15 * i = mul-le-mul_right i (omega arith) in omega arith

pub term_fits : (c x : ℕ) → c < 2 → x < 65536 → c * x < 65536
term_fits c x hc hx = let l : c * x ≤ 1 * x = mul-le-mul_right x (omega arith) in omega arith

-- the value at a^(2j+1), with that of the term c z^i added
unfoldable pub term_added : List ℕ → List ℕ → ℕ → ℕ → ℕ → ℕ
term_added es w c i j = xor (at w j) (c * table_power es ((2 * j + 1) * i))

module _ (es w out : List ℕ) (c i j : ℕ) (so_far : Filled 8 (term_added es w c i) j out) where
  pub term_next : (x r : ℕ) → j < 8 → x ≡ table_power es ((2 * j + 1) * i) → r ≡ xor (get_or w j 0) (c * x) → Filled 8 (term_added es w c i) (j + 1) (set out j r)
  unfolding term_added
  term_next x r l ex er = filled_next so_far l (rw ex at er)

  pub term_end : 8 ≤ j → out ≡ plus_term es w c i
  unfolding term_added plus_term
  term_end l = filled_end so_far l

-- the values of the terms below z^k of the polynomial r
unfoldable pub odd_up_to : List ℕ → ℕ → ℕ → List ℕ
odd_up_to es r k = tabulate 8 (λ j. xor_to k (λ i. bit_of 88 r (87 - i) * table_power es ((2 * j + 1) * i)))

module _ (es : List ℕ) (r : ℕ) where
  pub odd_none : replicate 8 0 ≡ odd_up_to es r 0
  unfolding odd_up_to tabulate xor_to
  odd_none = refl

  module _ (i : ℕ) (w : List ℕ) (so_far : w ≡ odd_up_to es r i) where
    pub odd_next : (c : ℕ) (s : List ℕ) → c ≡ bit_of 88 r (88 - 1 - i) → s ≡ plus_term es w c i → s ≡ odd_up_to es r (i + 1)
    unfolding odd_up_to plus_term xor_to
    odd_next c s ec e =
        rw (add-one, ← ec) (e ∙ tabulate_same 8 _ _ (λ j l. ap (λ (x : ℕ). xor x (c * table_power es ((2 * j + 1) * i))) (ap (λ (v : List ℕ). at v j) so_far ∙ tabulate_at 8 _ j 0 l)))

    pub odd_end : i ≤ 88 → 88 ≤ i → w ≡ odd_syndromes es r
    unfolding odd_up_to odd_syndromes powers_value
    odd_end l h = let q : i ≡ 88 = omega arith in rw q at so_far

-- the syndromes at a^(2i+1) and a^(2i+2), stored
pub syndromes_none : (es ls w t : List ℕ) → length t ≡ 16 → Syndromes es ls w 0 t
syndromes_none es ls w t e = record { long = e; odd = λ j h. absurd (not-suc-le-zero h); even = λ j h. absurd (not-suc-le-zero h) }

pub syndromes_next : (es ls w : List ℕ) (i : ℕ) (t : List ℕ) → Syndromes es ls w i t → i < 8 → (y z : ℕ) → y ≡ get_or w i 0 →
    z ≡ table_product es ls (get_or (set t (2 * i) y) i 0) (get_or (set t (2 * i) y) i 0) → Syndromes es ls w (i + 1) (set (set t (2 * i) y) (2 * i + 1) z)
syndromes_next es ls w i t so_far l y z ey ez =
    record { long = length-set u (2 * i + 1) z ∙ same_length; odd = λ j h. odd j (ℕ_discrete j i) h; even = λ j h. even j (ℕ_discrete j i) h }
  where
    u : List ℕ
    u = set t (2 * i) y

    same_length : length u ≡ 16
    same_length = length-set t (2 * i) y ∙ so_far.long

    stored : (j : ℕ) → ¬ (j ≡ 2 * i + 1) → get_or (set u (2 * i + 1) z) j 0 ≡ get_or u j 0
    stored j n = get_or-set_other u (2 * i + 1) j z 0 n

    kept : (j : ℕ) → ¬ (j ≡ 2 * i) → ¬ (j ≡ 2 * i + 1) → get_or (set u (2 * i + 1) z) j 0 ≡ get_or t j 0
    kept j m n = stored j n ∙ get_or-set_other t (2 * i) j y 0 m

    odd : (j : ℕ) → Dec (j ≡ i) → j < i + 1 → get_or (set u (2 * i + 1) z) (2 * j) 0 ≡ get_or w j 0
    odd j (yes e) h = rw e (stored (2 * i) (λ q. omega arith) ∙ get_or-set_same t (2 * i) y 0 (omega (arith, so_far.long)) ∙ ey)
    odd j (no n) h = kept (2 * j) (λ q. omega arith) (λ q. omega arith) ∙ so_far.odd j (omega arith)

    even : (j : ℕ) → Dec (j ≡ i) → j < i + 1 →
        get_or (set u (2 * i + 1) z) (2 * j + 1) 0 ≡ table_product es ls (get_or (set u (2 * i + 1) z) j 0) (get_or (set u (2 * i + 1) z) j 0)
    even j (yes e) h = rw (e, stored i (λ q. omega arith)) (get_or-set_same u (2 * i + 1) z 0 (omega (arith, same_length)) ∙ ez)
    even j (no n) h = rw (kept j (λ q. omega arith) (λ q. omega arith)) (kept (2 * j + 1) (λ q. omega arith) (λ q. omega arith) ∙ so_far.even j (omega arith))

pub syndromes_end : (es ls w v : List ℕ) (i : ℕ) (t : List ℕ) → w ≡ v → Syndromes es ls w i t → i ≤ 8 → 8 ≤ i → Syndromes es ls v 8 t
syndromes_end es ls w v i t q so_far l h = let e : i ≡ 8 = omega arith in rw (q, e) at so_far

-- an error's value tested
module _ (value x : ℕ) where
  pub bit_none : value ≡ 0 → true ≡ is_bit value x
  unfolding is_bit
  bit_none e = rw (eq-eqb value 0 e)

  pub bit_some : (value ≡ 0 → ⊥) → eqb value x ≡ is_bit value x
  unfolding is_bit
  bit_some n = rw (ne_eqb value 0 n)

-- the first k of the errors' values are those of wrong places
unfoldable pub binary_up_to : List ℕ → List ℕ → List ℕ → ℕ → Bool
binary_up_to es places values k = is_binary es places values k

pub binary_none : (es places values : List ℕ) → binary_up_to es places values 0 ≡ true
unfolding binary_up_to is_binary every
binary_none es places values = refl

module _ (es places values : List ℕ) (n k i x v : ℕ) (ei : i ≡ at places k) (ex : x ≡ locator es 2040 i) (ev : v ≡ at values k) (t : Bool) (et : t ≡ is_bit v x) where
  pub binary_not : k < n → not t ≡ true → false ≡ is_binary es places values n
  unfolding is_binary
  binary_not h e = sym (every_false n (λ l. is_bit (at values l) (locator es 2040 (at places l))) k h (rw (← ei, ← ev, ← ex, ← et) (not-true t e)))

  pub binary_next : binary_up_to es places values k ≡ true → not t ≡ false → binary_up_to es places values (k + 1) ≡ true
  unfolding binary_up_to is_binary every
  binary_next so_far e = rw (add-one, so_far, ← ei, ← ev, ← ex, ← et) (not-false t e)

pub binary_end : (es places values : List ℕ) (n k : ℕ) → binary_up_to es places values k ≡ true → k ≤ n → n ≤ k → true ≡ is_binary es places values n
unfolding binary_up_to
binary_end es places values n k so_far l h = let e : k ≡ n = omega arith in sym (rw e at so_far)

-- the errors of a word
module _ (es ls : List ℕ) (exp : es ≡ powers_b) (log : ls ≡ exponents_b) where
  pub tables_given : Tables es ls
  tables_given = rw (exp, log) tables_b

  -- the field has locators for all places of a word
  pub places_fit : (n : ℕ) → n ≤ 2047 → n ≤ length es
  places_fit n h = rw (exp, powers_length 11 2053 field_b) h

  pub powers_fit : (n : ℕ) → 2047 ≤ n → length es ≤ n
  powers_fit n h = rw (exp, powers_length 11 2053 field_b) h

  pub powers_are : length es ≡ 2047
  powers_are = rw (exp, powers_length 11 2053 field_b)

  pub errors_are : (odd t places values : List ℕ) (count : ℕ) (left : List ℕ) → Syndromes es ls odd 8 t →
      Decoded es ls t 2040 places values count left → length left ≡ 16 → ErrorsOf odd places values count left
  errors_are odd t places values count left S D n =
      record { t = t; syndromes = rw (exp, log) at S; decoded = rw (exp, log) at D; left_long = n }

pub word_errors : (w : List ℕ) (v : ℕ) (odd places values : List ℕ) (count : ℕ) (left : List ℕ) → v ≡ remainder 88 divisor (bit_at w) 2040 →
    odd ≡ odd_syndromes powers_b v → ErrorsOf odd places values count left → InnerErrors w places values count left
word_errors w v odd places values count left r e E = record { found = rw (e, r) at E }

module _ (es places values : List ℕ) (count : ℕ) (left : List ℕ) (t : Bool) (tested : t ≡ all_below 1 left) where
  pub explains_rest : t ≡ true → (b : Bool) → b ≡ is_binary es places values count → b ≡ explains es places values count left
  unfolding explains
  explains_rest e b q = rw (← tested, e) q

  pub explains_not : t ≡ false → false ≡ explains es places values count left
  unfolding explains
  explains_not e = rw (← tested, e)

-- a place inverted
bits_sum : (n x y j : ℕ) → bit_of n (xor x y) j ≡ xor (bit_of n x j) (bit_of n y j)
unfolding bit_of
bits_sum n x y j = rw (xor_high, xor_bit)

-- the byte with a 1 at place a
one_place : every 8 (λ a. every 8 (λ b. eqb (bit_of 8 (128 / 2 ^ a) b) (cond (eqb a b) 1 0))) ≡ true
unfolding every bit_of
one_place = refl

place_one : (a b : ℕ) → a < 8 → b < 8 → bit_of 8 (128 / 2 ^ a) b ≡ cond (eqb a b) 1 0
place_one a b ha hb =
    eqb-true _ _ (every_at 8 (λ b. eqb (bit_of 8 (128 / 2 ^ a) b) (cond (eqb a b) 1 0)) (every_at 8 (λ a. every 8 (λ b. eqb (bit_of 8 (128 / 2 ^ a) b) (cond (eqb a b) 1 0))) one_place a ha) b hb)

none_flipped : (t : Bool) (x : ℕ) → x ≡ xor x (cond t 0 0)
none_flipped true x = sym (xor_zero_r x)
none_flipped false x = sym (xor_zero_r x)

module _ (out : List ℕ) (i value : ℕ) where
  pub flip_none : value ≡ 0 → (l : ℕ) → l < 8 * length out → bit_at out l ≡ xor (bit_at out l) (cond (eqb i l) (differs value 0) 0)
  unfolding differs
  flip_none e l h = rw (eq-eqb value 0 e) (none_flipped (eqb i l) (bit_at out l))

  module _ (some : value ≡ 0 → ⊥) where
    pub flip_past : length out ≤ i / 8 → (l : ℕ) → l < 8 * length out → bit_at out l ≡ xor (bit_at out l) (cond (eqb i l) (differs value 0) 0)
    flip_past p l h = rw (ne_eqb i l (λ e. omega arith)) (sym (xor_zero_r (bit_at out l)))

    pub flip_one : i / 8 < length out → (l : ℕ) → l < 8 * length out →
        bit_at (set out (i / 8) (bit_xor (get_or out (i / 8) 0) (128 / 2 ^ (i % 8)))) l ≡ xor (bit_at out l) (cond (eqb i l) (differs value 0) 0)
    unfolding bit_at differs xor
    flip_one p l h = rw (ne_eqb value 0 some) (go (ℕ_discrete (l / 8) (i / 8)))
      where
        v : ℕ
        v = bit_xor (get_or out (i / 8) 0) (128 / 2 ^ (i % 8))

        within : l / 8 ≡ i / 8 → Dec (i % 8 ≡ l % 8) → ◌≡◌ {A = ℕ} (cond (eqb (i % 8) (l % 8)) 1 0) (cond (eqb i l) 1 0)
        within e (yes q) = rw (eq-eqb _ _ q, eq-eqb i l (omega arith))
        within e (no n) = rw (ne_eqb _ _ n, ne_eqb i l (λ q. n (ap (λ (z : ℕ). z % 8) q)))

        go : Dec (l / 8 ≡ i / 8) → bit_of 8 (get_or (set out (i / 8) v) (l / 8) 0) (l % 8) ≡ xor (bit_of 8 (get_or out (l / 8) 0) (l % 8)) (cond (eqb i l) 1 0)
        go (yes e) =
            rw (e, get_or-set_same out (i / 8) v 0 p)
            (bits_sum 8 (get_or out (i / 8) 0) (128 / 2 ^ (i % 8)) (l % 8)
            ∙ ap (xor (bit_of 8 (get_or out (i / 8) 0) (l % 8))) (place_one (i % 8) (l % 8) (omega arith) (omega arith) ∙ within e (ℕ_discrete (i % 8) (l % 8))))
        go (no n) = rw (get_or-set_other out (i / 8) (l / 8) v 0 n, ne_eqb i l (λ e. n (omega arith))) (sym (xor_zero_r _))

-- the bit at which a place stands
module _ (step i first : ℕ) (small : step ≤ 64) (known : Fits w16 i) where
  step_lt : step * i ≤ 64 * 65535
  step_lt = let l : step * i ≤ 64 * i = mul-le-mul_right i small in omega (arith, known)

  pub step_fits : Fits w64 (step * i)
  step_fits = record { fits = omega (arith, step_lt) }

  pub place_fits : first < 64 → Fits w64 (step * i + first)
  place_fits h = record { fits = omega (arith, step_lt) }

-- the bytes before, with the first k of the errors added
pub record Inverted (step first : ℕ) (before places values : List ℕ) (k : ℕ) (out : List ℕ) : Type 0 where
  pub long : length out ≡ length before
  pub bits : (l : ℕ) → l < 8 * length before → bit_at out l ≡ xor (bit_at before l) (inverted step first places values k l)

module _ (step first : ℕ) (before places values : List ℕ) where
  pub inverted_none : Inverted step first before places values 0 before
  unfolding inverted xor_to
  inverted_none = record { long = refl; bits = λ l h. sym (xor_zero_r (bit_at before l)) }

  module _ (k : ℕ) (out : List ℕ) (so_far : Inverted step first before places values k out) where
    pub inverted_next : (i : ℕ) → i ≡ step * get_or places k 0 + first → (next : List ℕ) → length next ≡ length out →
        ((l : ℕ) → l < 8 * length out → bit_at next l ≡ xor (bit_at out l) (cond (eqb i l) (differs (get_or values k 0) 0) 0)) →
        Inverted step first before places values (k + 1) next
    unfolding inverted xor_to
    inverted_next i e next same one =
        record {
          long = same ∙ so_far.long;
          bits = λ l b. one l (rw so_far.long b)
              ∙ ap (λ (x : ℕ). xor x (cond (eqb i l) (differs (get_or values k 0) 0) 0)) (so_far.bits l b) ∙ xor_assoc _ _ _ ∙ rw (add-one, e);
        }

    pub inverted_end : (n : ℕ) → k ≤ n → n ≤ k → (l : ℕ) → l < 8 * length before → bit_at out l ≡ xor (bit_at before l) (inverted step first places values n l)
    inverted_end n l h = let e : k ≡ n = omega arith in rw e at so_far.bits

-- a step of 1 from bit 0 on: the errors of the word itself
inverted_errors : (places values : List ℕ) (n l : ℕ) → n ≤ 8 → inverted 1 0 places values n l ≡ error_at places (flips values) n l
unfolding inverted error_at xor_to
inverted_errors places values zero l h = refl
inverted_errors places values (suc n) l h =
    let e : 1 * at places n + 0 ≡ at places n = omega arith in
    ap₂ xor (inverted_errors places values n l (omega arith)) (rw (e, flip_at values n (omega arith)))

pub corrected_word : (w buffer places values put out : List ℕ) (n : ℕ) → n ≤ 8 → length buffer ≡ length w → put ≡ copied w buffer → length out ≡ length put →
    ((l : ℕ) → l < 8 * length put → bit_at out l ≡ xor (bit_at put l) (inverted 1 0 places values n l)) →
    bits_of out ≡ with_errors (bit_at w) places (flips values) n (8 * length w)
unfolding bits_of with_errors
corrected_word w buffer places values put out n few room e same bits =
    let is : put ≡ w = e ∙ copied_same w buffer room in
    let long : length out ≡ length w = same ∙ ap length is in
    rw long (tabulate_same (8 * length w) (bit_at out) _ (λ l h.
    bits l (rw is h) ∙ ap₂ xor (ap (λ (x : List ℕ). bit_at x l) is) (inverted_errors places values n l few)))
