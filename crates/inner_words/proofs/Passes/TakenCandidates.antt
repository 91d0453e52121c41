-- Candidates for all inner words at once: tested by their residues, and taken where the test holds. Assumes nothing.
use mathlib.Core.Path.{◌≡◌, refl, sym, ap, ap₂, ◌∙◌}
use mathlib.Core.Bool.{Bool, true, cond}
use mathlib.Core.List.{List}
use Prim.Native.Nat.{ℕ, zero, suc, ◌+◌, ◌*◌, ◌/◌, ◌%◌, ◌<◌}
use native.Mathlib.Omega.{arith}
use lib.Bits.{bit_and, bit_or, bit_xor, and_le_l}
use lib.Dec.{eqb}
use Rattle.fields.specs.Elements.{xor, scale, doubled}
use Rattle.fields.specs.Places.{at, every, apart}
use Rattle.fields.proofs.Xor.{xor_self, xor_zero_r}
use Rattle.fields.proofs.Doubling.{doubled_sum}
use Rattle.lanes.specs.Steps.Sliced.{or_to}
use Rattle.words.specs.Bits.{bit_of, bit_at, bytes_of}
use Rattle.words.specs.InnerCode.{factors, remainder, is_inner}
use Rattle.words.specs.InnerWords.{inner_word, inner_restored}
use Rattle.words.proofs.Bits.Bytes.{bytes_bit}
use Rattle.words.proofs.Bits.Numbers.{bit_of_lt, bit_of_number, number_of_same, number_of_bits_lem}
use Rattle.words.proofs.Codes.Horner.{horner_same, horner_sum}
use Rattle.words.proofs.Codes.ShiftedBits.{bit_of_sum}
use Rattle.words.proofs.Codes.InnerWords.{inner_is}
use Rattle.words.proofs.Codes.Proved.{codes}
use Rattle.inner_words.specs.Steps.InnerResidues.{coefficient, word_residue, residues_of, WordResidues, sum_at}
use Rattle.inner_words.specs.Steps.Passes.{wrong_words, WordNearer, EachWord}
use Rattle.inner_words.specs.Steps.Candidates.{Flipped, flip_bit, AsBlock, flips_in, above, too_many, failing}
use Rattle.inner_words.proofs.Interleaving.InterleavedBits.{inner_word_length, place_to_bit}
use Rattle.inner_words.proofs.Interleaving.BitSliced.{bit_product, bit_or_lem, or_to_bit}
use Rattle.inner_words.proofs.Remainders.InnerResidues.{coefficient_sum}
use Rattle.inner_words.proofs.Remainders.ResidueCodes.{code_by, residue_bit, word_below, residues_same}
use Rattle.inner_words.proofs.Passes.WrongWords.{wrong_below, wrong_not, wrong_bit}
use Rattle.inner_words.proofs.Passes.InnerPass.{restored_some, restored_code, nearer_self, wrong_at}
use Rattle.inner_words.proofs.Passes.FlippedPlaces.{outside_mask, flipped_once, flips_apart}
use Rattle.inner_words.proofs.Passes.TooMany.{above_lt, above_not}

-- ---- the residues of what is inverted

abbrev flip_block : List ℕ → List ℕ
flip_block flips = bytes_of 16320 (flip_bit flips)

flip_block_lem : (flips : List ℕ) (i : ℕ) → i < 130560 → bit_at (flip_block flips) i ≡ flip_bit flips i
unfolding flip_bit
flip_block_lem flips i l = bytes_bit 16320 (λ i. bit_of 64 (at flips (i / 64)) (i % 64)) (λ i. bit_of_lt 64 _ _) i l

flip_place : (flips : List ℕ) (k p : ℕ) → k < 64 → p < 2040 → bit_at (flip_block flips) (64 * p + k) ≡ bit_of 64 (at flips p) k
unfolding flip_bit
flip_place flips k p l h =
    let q : (64 * p + k) / 64 ≡ p = omega arith in
    let r : (64 * p + k) % 64 ≡ k = omega arith in
    rw (q, r) at (flip_block_lem flips (64 * p + k) (omega arith))

pub failing_is : (residues flips block added : List ℕ) (x m : ℕ) → AsBlock flips block → added ≡ residues_of block (5 + 11 * 185) →
    x ≡ or_to 88 (sum_at residues added) → m ≡ too_many flips → bit_or x m ≡ failing residues flips
unfolding failing
failing_is residues flips block added x m f ea ex em =
    ap₂ bit_or (ex ∙ ap (λ (y : List ℕ). or_to 88 (sum_at residues y))
    (ea ∙ residues_same block (flip_block flips) (λ i l. f.bits i l ∙ sym (flip_block_lem flips i l)))) em

-- linearity: an inner word with places inverted has its residues plus those of the places
module _ (residues flips before after : List ℕ) (mask : ℕ) (g : Flipped flips mask before after) (k : ℕ) (l : k < 64) (em : bit_of 64 mask k ≡ 1)
    (R : WordResidues residues k before) where
  abbrev places : List ℕ
  places = flip_block flips

  word_sum : (j : ℕ) → remainder 11 (at factors j) (at (inner_word (bit_at after) k)) 2040 ≡ xor (word_residue j before 2040 k) (word_residue j places 2040 k)
  unfolding word_residue
  word_sum j =
      horner_same _ (at (inner_word (bit_at after) k)) (λ p. xor (bit_at before (64 * p + k)) (bit_at places (64 * p + k))) 2040 (λ p h.
      place_to_bit (bit_at after) k p h ∙ flipped_once flips mask before after g k l em p h ∙ ap (xor (bit_at before (64 * p + k))) (sym (flip_place flips k p l h)))
      ∙ horner_sum (doubled 11 (at factors j)) (doubled_sum 11 (at factors j)) (λ p. bit_at before (64 * p + k)) (λ p. bit_at places (64 * p + k)) 2040

  sum_code : every 88 (λ c. eqb (bit_of 64 (sum_at residues (residues_of places 2040) c) k) 0) ≡ is_inner (inner_word (bit_at after) k)
  unfolding sum_at
  sum_code =
      code_by (inner_word (bit_at after) k) _ (inner_word_length (bit_at after) k) (word_below after k) (λ c h.
      bit_of_sum 64 k (at residues c) (at (residues_of places 2040) c) ∙ ap₂ xor (R.each c h) (residue_bit places 2040 k c l h)
      ∙ sym (coefficient_sum (c % 11) _ _) ∙ ap (coefficient (c % 11)) (sym (word_sum (c / 11))))

-- ---- the test

bits_or_zero : (x y : ℕ) → x < 2 → y < 2 → bit_or x y ≡ 0 → (x ≡ 0) × (y ≡ 0)
bits_or_zero zero zero hx hy e = (refl, refl)
bits_or_zero zero (suc zero) hx hy e = absurd (omega arith)
bits_or_zero (suc zero) zero hx hy e = absurd (omega arith)
bits_or_zero (suc zero) (suc zero) hx hy e = absurd (omega arith)
bits_or_zero zero (suc (suc y)) hx hy e = absurd (omega arith)
bits_or_zero (suc zero) (suc (suc y)) hx hy e = absurd (omega arith)
bits_or_zero (suc (suc x)) y hx hy e = absurd (omega arith)

module _ (residues flips before after : List ℕ) (wrong x : ℕ) (told : wrong ≡ wrong_words (bit_at before))
    (R : (k : ℕ) → k < 64 → bit_of 64 wrong k ≡ 1 → WordResidues residues k before) (ex : x ≡ failing residues flips)
    (g : Flipped flips (bit_xor wrong (bit_and wrong x)) before after) where
  abbrev mask : ℕ
  mask = bit_xor wrong (bit_and wrong x)

  module _ (k : ℕ) (l : k < 64) where
    abbrev w : List ℕ
    w = inner_word (bit_at before) k

    abbrev v : List ℕ
    v = inner_word (bit_at after) k

    left_bit : bit_of 64 (bit_and wrong x) k ≡ scale (bit_of 64 wrong k) (bit_of 64 x k)
    left_bit = bit_product 64 k wrong x

    mask_bit : bit_of 64 mask k ≡ xor (bit_of 64 wrong k) (scale (bit_of 64 wrong k) (bit_of 64 x k))
    unfolding xor
    mask_bit = bit_of_sum 64 k wrong (bit_and wrong x) ∙ ap (bit_xor (bit_of 64 wrong k)) left_bit

    -- what is known of inner word k
    abbrev Known : Type 0
    Known = (bit_of 64 (bit_and wrong x) k ≡ wrong_at after k) × WordNearer w v

    -- a code word stays, and so does a word whose candidate fails
    stays : bit_of 64 mask k ≡ 0 → bit_of 64 (bit_and wrong x) k ≡ bit_of 64 wrong k → Known
    stays e q =
        let same = outside_mask flips mask before after g k l e in
        (q ∙ rw told (wrong_bit (bit_at before) k l) ∙ ap (λ (u : List ℕ). cond (is_inner u) 0 1) (sym same), rw same (nearer_self w))

    -- one whose candidate holds is the code word within eight places
    module _ (ew : bit_of 64 wrong k ≡ 1) (e : bit_of 64 x k ≡ 0) (em : bit_of 64 mask k ≡ 1) where
      sums : ℕ
      sums = or_to 88 (sum_at residues (residues_of (flip_block flips) 2040))

      none : (bit_of 64 sums k ≡ 0) × (bit_of 64 (too_many flips) k ≡ 0)
      unfolding failing sums
      none =
          bits_or_zero (bit_of 64 sums k) (bit_of 64 (too_many flips) k) (bit_of_lt 64 sums k) (bit_of_lt 64 (too_many flips) k)
          (sym (bit_or_lem 64 k sums (too_many flips)) ∙ ap (λ (y : ℕ). bit_of 64 y k) (sym ex) ∙ e)

      code : is_inner v ≡ true
      unfolding sums
      code = sym (sum_code residues flips before after mask g k l em (R k l ew)) ∙ wrong_not _ (sym (or_to_bit 64 k 88 _) ∙ none.0)

      near : above 8 (apart w v) ≡ 0
      unfolding too_many
      near =
          ap (above 8) (flips_apart flips mask before after g k l em)
          ∙ sym (bit_of_number (λ k. above 8 (flips_in flips k)) (λ k. above_lt 8 (flips_in flips k)) 64 k l) ∙ none.1

      found : inner_restored w ≡ v
      found =
          restored_some w v (codes.inner_nearest.complete w v (inner_word_length (bit_at before) k) (inner_is v code).long code (above_not 8 (apart w v) near))

      taken : bit_of 64 (bit_and wrong x) k ≡ 0 → Known
      taken q = (
        q ∙ rw code,
        record {
          same = restored_code v code ∙ sym found;
          kept = λ n. absurd (omega (arith, ap {B = ℕ} (λ (t : Bool). cond t 0 1) (sym code ∙ n)));
        },
      )

    known : (a b : ℕ) → bit_of 64 wrong k ≡ a → bit_of 64 x k ≡ b → a < 2 → b < 2 → Known
    unfolding scale
    known zero b ea eb ha hb = stays (rw (ea) at mask_bit ∙ xor_self 0) (rw (ea) at left_bit ∙ sym ea)
    known (suc zero) zero ea eb ha hb = taken ea eb (rw (ea, eb) at mask_bit ∙ xor_zero_r 1) (rw (ea, eb) at left_bit)
    known (suc zero) (suc zero) ea eb ha hb = stays (rw (ea, eb) at mask_bit ∙ xor_self 1) (rw (ea, eb) at left_bit ∙ sym ea)
    known (suc zero) (suc (suc b)) ea eb ha hb = absurd (omega arith)
    known (suc (suc a)) b ea eb ha hb = absurd (omega arith)

    is_known : Known
    is_known = known (bit_of 64 wrong k) (bit_of 64 x k) refl refl (bit_of_lt 64 wrong k) (bit_of_lt 64 x k)

  pub taken_left : bit_and wrong x ≡ wrong_words (bit_at after)
  unfolding wrong_words
  taken_left =
      sym (number_of_bits_lem 64 (bit_and wrong x) (omega (arith, and_le_l wrong x, told, wrong_below (bit_at before)))) ∙ number_of_same 64 _ _ (λ k l. (is_known k l).0)

  pub taken_nearer : EachWord WordNearer before after
  taken_nearer = record { long = g.long; word = λ k l. (is_known k l).1 }
