-- An inner word of a block corrected where it stands: its values come from its residues, and its wrong places are inverted. Assumes nothing.
use mathlib.Core.Path.{◌≡◌, refl, sym, ap, ap₂, ◌∙◌}
use mathlib.Core.Bool.{Bool, true, false, not, cond}
use mathlib.Core.List.{List}
use mathlib.Core.Option.{some}
use Prim.Native.Nat.{ℕ, zero, suc, ◌+◌, ◌-◌, ◌*◌, ◌/◌, ◌%◌, ◌≤◌, ◌<◌, zero-le}
use native.Mathlib.Decide.{ℕ_discrete}
use native.Mathlib.Numerals.{add-one}
use native.Mathlib.Omega.{arith}
use borrow.Author.Tests.{eq-eqb, ne_eqb, not-true, not-false}
use lib.Bits.{bit_xor}
use lib.Dec.{eqb}
use lib.ListN.{length}
use Rattle.fields.specs.Lists.{tabulate}
use Rattle.fields.specs.Elements.{xor, powers_b}
use Rattle.fields.specs.Steps.ByTables.{table_power}
use Rattle.fields.specs.Places.{at, value, differs}
use Rattle.fields.proofs.ByTables.{table_power_lem}
use Rattle.fields.proofs.Instances.{field_b}
use Rattle.fields.proofs.Lists.{tabulate_is, tabulate_length}
use Rattle.fields.proofs.Xor.{xor_zero_r}
use Rattle.decoding.specs.Steps.Decoder.{xor_to, error_at, with_errors}
use Rattle.decoding.proofs.Algebra.Tables.{xor_to_same}
use Rattle.decoding.proofs.Decoding.Changes.{errors_at}
use Rattle.words.specs.Bits.{bit_of, bit_at, bits_of, bytes_of}
use Rattle.words.specs.InnerCode.{divisor, remainder, power_b, is_inner}
use Rattle.words.specs.Nearest.{nearest}
use Rattle.words.specs.Steps.InnerDecoding.{odd_syndromes, flips, ErrorsOf, InnerErrors, inverted, explains}
use Rattle.words.specs.InnerWords.{inner_word, inner_restored}
use Rattle.words.proofs.Bits.Bytes.{bit_at_lt, bits_at, bits_length, bytes_bit, bytes_length}
use Rattle.words.proofs.Bits.Numbers.{bit_of_lt}
use Rattle.words.proofs.Codes.Horner.{horner_same, value_of_more}
use Rattle.words.proofs.Codes.LeastPolynomials.{times_power_sum}
use Rattle.words.proofs.Codes.InnerRoots.{value_of_bits, remainder_bits}
use Rattle.words.proofs.Codes.Proved.{codes}
use Rattle.words.proofs.Decoding.InnerSyndromes.{value_powers, odd_syndrome_b}
use Rattle.words.proofs.Decoding.Inner.{flip_at, inner_found, inner_lost}
use Rattle.inner_words.specs.Steps.InnerResidues.{word_residue, WordResidues, odd_syndrome}
use Rattle.inner_words.specs.Steps.Passes.{WordRestored, OneWord}
use Rattle.inner_words.proofs.Interleaving.InterleavedBits.{inner_word_length}
use Rattle.inner_words.proofs.Remainders.ResidueCodes.{residue_value, residue_lt}
use Rattle.inner_words.proofs.Passes.InnerPass.{restored_none, restored_some, lost_wrong, word_stays, word_other}

-- ---- a value

-- the invariant: the first i terms are added
pub record Adding (es residues : List ℕ) (k j i v : ℕ) : Type 0 where
  pub within : i ≤ 11
  pub value : v ≡ xor_to i (λ i. bit_of 64 (at residues (11 * j + i)) k * table_power es ((2 * j + 1) * i))

pub adding_start : {es residues : List ℕ} {k j : ℕ} → Adding es residues k j 0 0
unfolding xor_to
adding_start = record { within = zero-le; value = refl }

module _ {es residues : List ℕ} {k j i v : ℕ} (s : Adding es residues k j i v) where
  pub adding_next : {t : ℕ} → i < 11 → t ≡ bit_of 64 (at residues (11 * j + i)) k * table_power es ((2 * j + 1) * i) → Adding es residues k j (i + 1) (bit_xor v t)
  unfolding xor_to xor
  adding_next l e = record { within = omega arith; value = rw (add-one, e, s.value) }

  pub adding_end : 11 ≤ i → v ≡ odd_syndrome es residues k j
  unfolding odd_syndrome
  adding_end l = let e : i ≡ 11 = omega (arith, s.within) in rw e at s.value

-- ---- the values of an inner word

odd_length : (r : ℕ) → length (odd_syndromes powers_b r) ≡ 8
unfolding odd_syndromes
odd_length r = tabulate_length 8 _

-- inner word k of a block, as bytes
word_bytes : List ℕ → ℕ → List ℕ
word_bytes block k = bytes_of 255 (λ p. bit_at block (64 * p + k))

module _ (block : List ℕ) (k : ℕ) where
  abbrev w : List ℕ
  w = word_bytes block k

  abbrev b : ℕ → ℕ
  b p = bit_at block (64 * p + k)

  word_length : length w ≡ 255
  unfolding word_bytes
  word_length = bytes_length 255 b

  word_bit : (p : ℕ) → p < 2040 → bit_at w p ≡ b p
  unfolding word_bytes
  word_bit p l = bytes_bit 255 b (λ p. bit_at_lt block _) p l

  word_bits : bits_of w ≡ inner_word (bit_at block) k
  unfolding inner_word
  word_bits =
      tabulate_is 2040 _ (bits_of w) 0 (bits_length w ∙ omega (arith, word_length)) (λ p l. bits_at w p ∙ word_bit p l)

  module _ (residues : List ℕ) (R : WordResidues residues k block) where
    residue_term : (j i : ℕ) → j < 8 → i < 11 →
        bit_of 64 (at residues (11 * j + i)) k * table_power powers_b ((2 * j + 1) * i) ≡ bit_of 11 (word_residue j block 2040 k) (11 - suc i) * power_b ((2 * j + 1) * i)
    unfolding bit_of
    residue_term j i h l =
        let q : (11 * j + i) / 11 ≡ j = omega arith in
        let r : (11 * j + i) % 11 ≡ i = omega arith in
        let e : 11 - suc (11 - suc i) ≡ i = omega arith in
        ap₂ ◌*◌ (R.each (11 * j + i) (omega arith) ∙ rw (q, r, e)) (table_power_lem 11 2053 field_b ((2 * j + 1) * i))

    pub odd_syndrome_word : (j : ℕ) → j < 8 → odd_syndrome powers_b residues k j ≡ value 11 2053 (power_b (2 * j + 1)) b 2040
    unfolding odd_syndrome word_residue
    odd_syndrome_word j h =
        let e = 2 * j + 1 in
        let r = word_residue j block 2040 k in
        let bits : (p : ℕ) → b p < 2 = λ p. bit_at_lt block _ in
        xor_to_same 11 _ _ (λ i l. residue_term j i h l) ∙ sym (value_powers 11 2053 field_b e (bit_of 11 r) (bit_of_lt 11 r) 11)
        ∙ sym (value_of_bits _ 11 r) ∙ sym (value_of_more _ (times_power_sum e) 1 11 r (residue_lt b bits 2040 j h)) ∙ residue_value b bits 2040 j h

    odd_syndrome_lem : (j : ℕ) → j < 8 → odd_syndrome powers_b residues k j ≡ at (odd_syndromes powers_b (remainder 88 divisor (bit_at w) 2040)) j
    odd_syndrome_lem j h =
        odd_syndrome_word j h ∙ horner_same _ b (bit_at w) 2040 (λ p l. sym (word_bit p l))
        ∙ sym (odd_syndrome_b (remainder 88 divisor (bit_at w) 2040) j h ∙ remainder_bits (bit_at w) (bit_at_lt w) 2040 j h)

    values_are : tabulate 8 (odd_syndrome powers_b residues k) ≡ odd_syndromes powers_b (remainder 88 divisor (bit_at w) 2040)
    values_are = sym (tabulate_is 8 _ _ 0 (odd_length (remainder 88 divisor (bit_at w) 2040)) (λ j h. sym (odd_syndrome_lem j h)))

-- ---- its wrong places inverted

-- what is inverted of inner word k, where its places stand 64 bits apart, and of the others
module _ (places values : List ℕ) (k : ℕ) (k_lt : k < 64) where
  inverted_inside : (n p : ℕ) → n ≤ 8 → inverted 64 k places values n (64 * p + k) ≡ error_at places (flips values) n p
  unfolding inverted error_at xor_to
  inverted_inside zero p h = refl
  inverted_inside (suc n) p h = ap₂ xor (inverted_inside n p (omega arith)) (go (ℕ_discrete (at places n) p))
    where
      go : Dec (at places n ≡ p) →
          cond (eqb (64 * at places n + k) (64 * p + k)) (differs (at values n) 0) 0 ≡ cond (eqb (at places n) p) (at (flips values) n) 0
      go (yes e) = rw (eq-eqb _ _ e, eq-eqb (64 * at places n + k) (64 * p + k) (omega arith)) (sym (flip_at values n (omega arith)))
      go (no q) = rw (ne_eqb _ _ q, ne_eqb (64 * at places n + k) (64 * p + k) (λ r. q (omega arith)))

  inverted_outside : (n i : ℕ) → (i % 64 ≡ k → ⊥) → inverted 64 k places values n i ≡ 0
  unfolding inverted xor_to
  inverted_outside zero i q = refl
  inverted_outside (suc n) i q =
      rw (ne_eqb (64 * at places n + k) i (λ e. q (omega arith)), inverted_outside n i q) (xor_zero_r 0)

module _ (block residues odd es : List ℕ) (k : ℕ) (k_lt : k < 64) (long : length block ≡ 16320) (exp : es ≡ powers_b) (R : WordResidues residues k block)
    (eo : odd ≡ tabulate 8 (odd_syndrome powers_b residues k)) (places values : List ℕ) (count : ℕ) (left : List ℕ) (E : ErrorsOf odd places values count left)
    (t : Bool) (et : t ≡ explains es places values count left) where
  found : InnerErrors (word_bytes block k) places values count left
  found =
      let e : odd ≡ odd_syndromes powers_b (remainder 88 divisor (bit_at (word_bytes block k)) 2040) =
      eo ∙ values_are block k residues R in
      record { found = rw e at E }

  -- without an explanation there is no code word within eight places
  pub not_explained : not t ≡ true → OneWord WordRestored k block block 1
  not_explained n =
      let fails : explains powers_b places values count left ≡ false = rw (← exp, ← et) (not-true t n) in
      let w = inner_word (bit_at block) k in
      let lost = rw (word_bits block k) at (inner_lost (word_bytes block k) (word_length block k) places values count left found fails) in
      word_stays (rw (lost_wrong w lost)) (record { is = sym (restored_none w lost) })

  -- with one, the word with its places inverted is that code word
  module _ (y : not t ≡ false) (next : List ℕ) (same : length next ≡ length block)
      (bits : (l : ℕ) → l < 8 * length block → bit_at next l ≡ xor (bit_at block l) (inverted 64 k places values count l)) where
    explained : explains powers_b places values count left ≡ true
    explained = rw (← exp, ← et) (not-false t y)

    abbrev c : List ℕ
    c = with_errors (bit_at (word_bytes block k)) places (flips values) count 2040

    near : nearest is_inner 2 8 (inner_word (bit_at block) k) ≡ some c
    near = rw (word_bits block k) at (inner_found (word_bytes block k) (word_length block k) places values count left found explained)

    restored : inner_restored (inner_word (bit_at block) k) ≡ c
    restored = restored_some (inner_word (bit_at block) k) c near

    inside : (p : ℕ) → p < 2040 → bit_at next (64 * p + k) ≡ at c p
    inside p l =
        bits (64 * p + k) (omega arith)
        ∙ ap₂ xor (sym (word_bit block k p l)) (inverted_inside places values k k_lt count p E.decoded.few)
        ∙ sym (errors_at places (flips values) 2040 count (bit_at (word_bytes block k)) p l)

    word_is : inner_word (bit_at next) k ≡ c
    unfolding inner_word
    word_is =
        let s = codes.inner_nearest.sound (inner_word (bit_at block) k) c (inner_word_length (bit_at block) k) near in
        sym (tabulate_is 2040 _ c 0 s.0 (λ p l. sym (inside p l)))

    pub word_explained : OneWord WordRestored k block next 0
    word_explained =
        record {
          long = same;
          told = rw (word_is, (codes.inner_nearest.sound (inner_word (bit_at block) k) c (inner_word_length (bit_at block) k) near).1);
          word = record { is = word_is ∙ sym restored };
          others = word_other block next k
              (λ i l q. bits i (omega arith) ∙ ap (xor (bit_at block i)) (inverted_outside places values k k_lt count i q) ∙ xor_zero_r (bit_at block i));
        }
