-- An inner word with a single wrong place: its values are the odd powers of the place's locator. Assumes nothing.
use mathlib.Core.Path.{◌≡◌, refl, sym, ap, ap₂, subst, ◌∙◌}
use mathlib.Core.Bool.{Bool, true, false, not, cond}
use mathlib.Core.List.{List, [], ◌∷◌}
use Prim.Native.Nat.{ℕ, zero, suc, ◌+◌, ◌-◌, ◌*◌, ◌%◌, ◌≤◌, ◌<◌, zero-le}
use native.Mathlib.Decide.{ℕ_discrete}
use native.Mathlib.Nat.{le_refl, not-suc-le-zero, one-mul, zero-mul}
use native.Mathlib.Numerals.{one-add}
use native.Mathlib.Omega.{arith}
use borrow.Author.Tests.{eq-eqb, eqb-true, ne_eqb, not-false}
use lib.Dec.{eqb, lit<}
use lib.ListN.{length, get_or}
use Rattle.std.specs.Bool.{MatchBool}
use Rattle.std.specs.List.{AllWithin, HoldsAt, range_with_len}
use Rattle.std.proofs.lemmas.List.FromFn.{get_or-range_with_len}
use Rattle.fields.specs.Elements.{xor, powers_b}
use Rattle.fields.specs.Steps.ByTables.{table_power}
use Rattle.fields.specs.Places.{at, value, differs, apart}
use Rattle.fields.proofs.ByTables.{table_power_lem}
use Rattle.fields.proofs.Instances.{field_b}
use Rattle.fields.proofs.Lists.{tabulate_is}
use Rattle.fields.proofs.Xor.{xor_lt, xor_self, xor_zero_l, xor_zero_r}
use Rattle.fields.proofs.Places.Tests.{every_at, every_false, every_true, below_all}
use Rattle.decoding.specs.Steps.Decoder.{xor_to, error_at, with_errors}
use Rattle.decoding.proofs.Algebra.Tables.{powers_length}
use Rattle.decoding.proofs.Decoding.Changes.{error_lt, weight_most, errors_length, errors_at, apart_errors}
use Rattle.words.specs.Bits.{bit_at}
use Rattle.words.specs.InnerCode.{power_b, is_inner}
use Rattle.words.specs.InnerWords.{inner_word, inner_restored}
use Rattle.words.proofs.Bits.Bytes.{bit_at_lt}
use Rattle.words.proofs.Codes.Horner.{horner_same, horner_sum}
use Rattle.words.proofs.Codes.InnerRoots.{inner_code}
use Rattle.words.proofs.Codes.Proved.{codes}
use Rattle.words.proofs.Decoding.InnerSyndromes.{value_powers}
use Rattle.inner_words.specs.Steps.InnerResidues.{WordResidues, odd_syndrome, is_single}
use Rattle.inner_words.specs.Steps.Passes.{WordRestored, OneWord}
use Rattle.inner_words.proofs.Interleaving.InterleavedBits.{inner_word_length, place_to_bit}
use Rattle.inner_words.proofs.Passes.InnerPass.{restored_some, word_other}
use Rattle.inner_words.proofs.Passes.WordErrors.{odd_syndrome_word}

-- ---- its values

pub powers_are : (es : List ℕ) → es ≡ powers_b → length es ≡ 2047
powers_are es e = rw (e, powers_length 11 2053 field_b)

pub power_is : (es : List ℕ) (n : ℕ) → es ≡ powers_b → get_or es (n % 2047) 0 ≡ table_power powers_b n
unfolding table_power
power_is es n e = rw (e, powers_length 11 2053 field_b)

-- a sum with a single term
only_before : (m q : ℕ) (f : ℕ → ℕ) → m ≤ q → ((i : ℕ) → i < m → (i ≡ q → ⊥) → f i ≡ 0) → xor_to m f ≡ 0
unfolding xor_to
only_before zero q f l none = refl
only_before (suc m) q f l none =
    ap₂ xor (only_before m q f (omega arith) (λ i b. none i (omega arith))) (none m (le_refl (suc m)) (λ e. omega arith)) ∙ xor_self 0

only_here : (n q : ℕ) (f : ℕ → ℕ) → q < n → ((i : ℕ) → i < n → (i ≡ q → ⊥) → f i ≡ 0) → xor_to n f ≡ f q
unfolding xor_to
only_here zero q f h none = absurd (not-suc-le-zero h)
only_here (suc n) q f h none = go (ℕ_discrete q n) (λ l. only_here n q f l (λ i b. none i (omega arith)))
  where
    go : Dec (q ≡ n) → (q < n → xor_to n f ≡ f q) → xor (xor_to n f) (f n) ≡ f q
    go (yes e) before = ap₂ xor (only_before n q f (omega arith) (λ i b. none i (omega arith))) (ap f (sym e)) ∙ xor_zero_l (f q)
    go (no g) before = ap₂ xor (before (omega arith)) (none n (le_refl (suc n)) (λ e. g (sym e))) ∙ xor_zero_r (f q)

-- the word with a 1 at place q alone, and its value at a^i
unfoldable one_at : ℕ → ℕ → ℕ
one_at q p = error_at (q ∷ []) (1 ∷ []) 1 p

one_here : (q : ℕ) → one_at q q ≡ 1
unfolding one_at error_at xor_to
one_here q = rw (eq-eqb q q refl) (xor_zero_l 1)

one_other : (q p : ℕ) → (q ≡ p → ⊥) → one_at q p ≡ 0
unfolding one_at error_at xor_to
one_other q p n = rw (ne_eqb q p n) (xor_self 0)

one_lt : (q p : ℕ) → one_at q p < 2
unfolding one_at
one_lt q p = error_lt (q ∷ []) (1 ∷ []) 1 1 p (λ l h. let e : l ≡ 0 = omega arith in rw e (lit< tt))

one_value : (e i : ℕ) → e < 2040 → value 11 2053 (power_b i) (one_at (2039 - e)) 2040 ≡ power_b (i * e)
one_value e i h =
    value_powers 11 2053 field_b i (one_at (2039 - e)) (one_lt (2039 - e)) 2040
    ∙ only_here 2040 e _ h (λ l b n. rw (one_other (2039 - e) (2040 - suc l) (λ q. n (omega arith))) (zero-mul _))
    ∙ (let q : 2040 - suc e ≡ 2039 - e = omega arith in rw (q, one_here (2039 - e)) (one-mul _))

-- ---- all of them tested

module _ (es residues : List ℕ) (k e : ℕ) where
  -- the value at a^(2j+1) is that of a single wrong place
  abbrev pub Single : ℕ → Type 0
  Single j = odd_syndrome es residues k j ≡ table_power es ((2 * j + 1) * e)

  after_first : (i : ℕ) → i < 7 → get_or (range_with_len 1 7) i 0 ≡ suc i
  after_first i l = get_or-range_with_len 1 7 i 0 l ∙ one-add i

  pub single_all : (r : Bool) → odd_syndrome es residues k 0 ≡ table_power es e →
      MatchBool r (AllWithin Single (range_with_len 1 7) 0 7) ((i : ℕ) × (i < 7) × HoldsAt (λ j. Single j → ⊥) (range_with_len 1 7) i) → r ≡ is_single es residues k e
  unfolding is_single
  single_all true q all = sym (every_true 8 _ (λ j l. eq-eqb _ _ (here j l)))
    where
      here : (j : ℕ) → j < 8 → Single j
      here zero l = let n : (2 * 0 + 1) * e ≡ e = omega arith in rw n q
      here (suc i) l = subst Single (after_first i (omega arith)) (all i 0 zero-le (omega arith))
  single_all false q (i, l, differs_there) = sym (every_false 8 _ (suc i) (omega arith) (ne_eqb _ _ (λ s. differs_there 0 (subst Single (sym (after_first i l)) s))))

-- ---- the place inverted

pub value_given : (es residues : List ℕ) (k e x p : ℕ) → x ≡ odd_syndrome es residues k 0 → p ≡ table_power es e → x ≡ p → odd_syndrome es residues k 0 ≡ table_power es e
value_given es residues k e x p ex ep q = sym ex ∙ q ∙ ep

one_differs : differs 1 0 ≡ 1
unfolding differs
one_differs = refl

module _ (block residues es : List ℕ) (k e : ℕ) (k_lt : k < 64) (long : length block ≡ 16320) (exp : es ≡ powers_b) (R : WordResidues residues k block)
    (small : e < 2040) (t : Bool) (et : t ≡ is_single es residues k e) (y : not t ≡ false) where
  abbrev b : ℕ → ℕ
  b p = bit_at block (64 * p + k)

  abbrev q : ℕ
  q = 2039 - e

  abbrev c : List ℕ
  c = with_errors b (q ∷ []) (1 ∷ []) 1 2040

  c_long : length c ≡ 2040
  c_long = errors_length (q ∷ []) (1 ∷ []) 2040 1 b

  c_at : (p : ℕ) → p < 2040 → at c p ≡ xor (b p) (one_at q p)
  unfolding one_at
  c_at p l = errors_at (q ∷ []) (1 ∷ []) 2040 1 b p l

  value_is : (j : ℕ) → j < 8 → value 11 2053 (power_b (2 * j + 1)) b 2040 ≡ power_b ((2 * j + 1) * e)
  unfolding is_single
  value_is j h =
      sym (odd_syndrome_word block k residues R j h)
      ∙ eqb-true _ _ (every_at 8 (λ j. eqb (odd_syndrome powers_b residues k j) (table_power powers_b ((2 * j + 1) * e))) (rw exp at (sym et ∙ not-false t y)) j h)
      ∙ table_power_lem 11 2053 field_b ((2 * j + 1) * e)

  c_root : (j : ℕ) → j < 8 → value 11 2053 (power_b (2 * j + 1)) (at c) 2040 ≡ 0
  c_root j h =
      horner_same _ (at c) (λ p. xor (b p) (one_at q p)) 2040 c_at
      ∙ horner_sum _ (λ x y. field_b.sum_times x y (power_b (2 * j + 1))) b (one_at q) 2040
      ∙ ap₂ xor (value_is j h) (one_value e (2 * j + 1) small) ∙ xor_self _

  c_code : is_inner c ≡ true
  c_code =
      inner_code c c_long
      (below_all 2 c (λ p l. rw (c_at p (rw c_long at l)) (xor_lt 1 _ _ (bit_at_lt block _) (one_lt q p)))) c_root

  near : apart (inner_word (bit_at block) k) c ≤ 1
  near =
      omega (
        arith,
        weight_most (q ∷ []) (1 ∷ []) 0 2040 1,
        apart_errors (q ∷ []) (1 ∷ []) 2040 1 b (inner_word (bit_at block) k) (λ p l. place_to_bit (bit_at block) k p l) (λ l m h g. absurd (omega arith))
            (inner_word_length (bit_at block) k),
      )

  restored : inner_restored (inner_word (bit_at block) k) ≡ c
  restored =
      restored_some (inner_word (bit_at block) k) c
      (codes.inner_nearest.complete (inner_word (bit_at block) k) c (inner_word_length (bit_at block) k) c_long c_code (omega (arith, near)))

  module _ (next : List ℕ) (same : length next ≡ length block)
      (bits : (l : ℕ) → l < 8 * length block → bit_at next l ≡ xor (bit_at block l) (cond (eqb (64 * (2039 - e) + k) l) (differs 1 0) 0)) where
    inside : (p : ℕ) → p < 2040 → bit_at next (64 * p + k) ≡ at c p
    inside p l = bits (64 * p + k) (omega arith) ∙ ap (xor (b p)) (go (ℕ_discrete q p)) ∙ sym (c_at p l)
      where
        go : Dec (q ≡ p) → cond (eqb (64 * q + k) (64 * p + k)) (differs 1 0) 0 ≡ one_at q p
        go (yes z) = rw (eq-eqb (64 * q + k) (64 * p + k) (omega arith), ← z, one_here q) one_differs
        go (no n) = rw (ne_eqb (64 * q + k) (64 * p + k) (λ z. n (omega arith)), one_other q p n)

    word_is : inner_word (bit_at next) k ≡ c
    unfolding inner_word
    word_is = sym (tabulate_is 2040 _ c 0 c_long (λ p l. sym (inside p l)))

    pub single_restored : OneWord WordRestored k block next 0
    single_restored =
        record {
          long = same;
          told = rw (word_is, c_code);
          word = record { is = word_is ∙ sym restored };
          others = word_other block next k (λ i l n. bits i (omega arith) ∙ rw (ne_eqb (64 * (2039 - e) + k) i (λ z. n (omega arith))) (xor_zero_r (bit_at block i)));
        }
