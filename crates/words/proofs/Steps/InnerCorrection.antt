-- What `correct_inner` answers, on each way through it. Assumes nothing.
use mathlib.Core.Path.{◌≡◌, refl, sym, ap, ◌∙◌}
use mathlib.Core.Bool.{Bool, true, false, not}
use mathlib.Core.List.{List}
use mathlib.Core.Option.{Option, none, some}
use Prim.Native.Nat.{ℕ, ◌+◌, ◌*◌, ◌≤◌, zero-le}
use native.Mathlib.Omega.{arith}
use borrow.Author.Tests.{eq-eqb, eqb-true, ne_eqb, not-true, not-false}
use lib.Dec.{eqb, lit≤}
use lib.ListN.{length, get_or}
use Rattle.fields.specs.Elements.{powers_b}
use Rattle.fields.specs.Places.{at, apart}
use Rattle.fields.proofs.Places.Differences.{between_plus}
use Rattle.decoding.specs.Steps.Decoder.{weight_between, with_errors}
use Rattle.words.specs.Bits.{bit_at, bits_of, bytes_of}
use Rattle.words.specs.InnerCode.{is_inner}
use Rattle.words.specs.Nearest.{nearest}
use Rattle.words.specs.InnerCorrections.{InnerCorrection, Corrected, Refused}
use Rattle.words.specs.Answers.{refusal, data_changed_of, parity_changed_of, found, corrected, inner_changes, inner_corrected}
use Rattle.words.specs.Steps.InnerDecoding.{flips, InnerErrors, explains}
use Rattle.words.proofs.Bits.Bytes.{bytes_again, bits_length}
use Rattle.words.proofs.Codes.Proved.{codes}
use Rattle.words.proofs.Decoding.Inner.{inner_changes_lem, inner_found, inner_lost}

module _ (w o : List ℕ) where
  pub correct_inner_length : (length w ≡ 255 → ⊥) → ◌≡◌ {A = InnerCorrection × List ℕ} (Refused 6, o) (inner_corrected w o)
  unfolding inner_corrected corrected refusal
  correct_inner_length n = rw (ne_eqb (length w) 255 n)

  module _ (long : length w ≡ 255) where
    pub correct_inner_space : (length o ≡ 255 → ⊥) → ◌≡◌ {A = InnerCorrection × List ℕ} (Refused 3, o) (inner_corrected w o)
    unfolding inner_corrected corrected refusal
    correct_inner_space n = rw (eq-eqb (length w) 255 long, ne_eqb (length o) 255 n)

    module _ (fits : length o ≡ 255) (places values : List ℕ) (count : ℕ) where
      pub correct_inner_none : (left : List ℕ) → InnerErrors w places values count left → (b : Bool) (es : List ℕ) → b ≡ explains es places values count left → es ≡ powers_b → not b ≡ true →
          ◌≡◌ {A = InnerCorrection × List ℕ} (Refused 5, o) (inner_corrected w o)
      unfolding inner_corrected corrected refusal found
      correct_inner_none left E b es tested exp e =
          let t : b ≡ explains powers_b places values count left = rw exp at tested in
          rw (eq-eqb (length w) 255 long, eq-eqb (length o) 255 fits, inner_lost w long places values count left E (sym t ∙ not-true b e))

      pub correct_inner_found : (out : List ℕ) → bits_of out ≡ with_errors (bit_at w) places (flips values) count (8 * length w) → ((k : ℕ) → get_or out k 0 ≤ 255) → length out ≡ length o →
          (d p : ℕ) → d ≡ weight_between 0 1952 places values count → p ≡ weight_between 1952 2040 places values count → (left : List ℕ) → InnerErrors w places values count left → (b : Bool)
          (es : List ℕ) → b ≡ explains es places values count left → es ≡ powers_b → not b ≡ false → ◌≡◌ {A = InnerCorrection × List ℕ} (Corrected d p, out) (inner_corrected w o)
      unfolding inner_corrected corrected refusal found inner_changes
      correct_inner_found out made bytes same d p first second left E b es tested exp e =
          let t : explains powers_b places values count left ≡ true = sym (rw exp at tested) ∙ not-false b e in
          let all : 8 * length w ≡ 2040 = omega arith in
          let c = with_errors (bit_at w) places (flips values) count 2040 in
          let content : out ≡ bytes_of 255 (at c) =
          bytes_again 255 out (same ∙ fits) (λ k. omega (arith, bytes k)) ∙ ap (λ (x : List ℕ). bytes_of 255 (at x)) (made ∙ ap (with_errors (bit_at w) places (flips values) count) all) in
          let changes = inner_changes_lem w long places values count left E t in
          rw (
            eq-eqb (length w) 255 long,
            eq-eqb (length o) 255 fits,
            inner_found w long places values count left E t,
            ← content,
            changes 0 1952 (lit≤ tt),
            changes 1952 2040 (lit≤ tt),
            first,
            second,
          )

-- ---- both counts together

-- they are the distance of the word and the code word
pub changes_sum : (w c : List ℕ) → length w ≡ 2040 → (let a = inner_changes w c in data_changed_of a + parity_changed_of a ≡ apart w c)
unfolding inner_changes apart
changes_sum w c long = rw long (sym (between_plus 0 1952 2040 w c (lit≤ tt) (lit≤ tt)))

-- at most eight
pub changes_few : (w o : List ℕ) → (let a = (inner_corrected w o).0 in data_changed_of a + parity_changed_of a ≤ 8)
unfolding inner_corrected corrected refusal found
changes_few w o = go (eqb (length w) 255) refl (eqb (length o) 255) (nearest is_inner 2 8 (bits_of w)) refl
  where
    go : (long : Bool) → eqb (length w) 255 ≡ long → (fits : Bool) (near : Option (List ℕ)) → nearest is_inner 2 8 (bits_of w) ≡ near →
        (let a = (corrected Refused (refusal long fits true) o (found Refused (inner_changes (bits_of w)) (λ c. bytes_of 255 (at c)) o near)).0 in data_changed_of a + parity_changed_of a ≤ 8)
    go false l fits near e = zero-le
    go true l false near e = zero-le
    go true l true none e = zero-le
    go true l true (some c) e =
        let long : length (bits_of w) ≡ 2040 = bits_length w ∙ omega (arith, eqb-true (length w) 255 l) in
        rw (changes_sum (bits_of w) c long) (codes.inner_nearest.sound (bits_of w) c long e).2
