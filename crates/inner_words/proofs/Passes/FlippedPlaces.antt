-- The places of candidates: inverted in a block, and written as a block. Assumes nothing.
use mathlib.Core.Path.{◌≡◌, refl, sym, ap, ◌∙◌}
use mathlib.Core.List.{List}
use Prim.Native.Nat.{ℕ, ◌+◌, ◌*◌, ◌/◌, ◌%◌, ◌≤◌, ◌<◌, zero-le}
use native.Mathlib.Decide.{ℕ_discrete, dec_lt}
use native.Mathlib.Nat.{not-suc-le-zero}
use native.Mathlib.Omega.{arith}
use lib.Bits.{bit_and, bit_xor}
use lib.ListN.{length}
use Rattle.fields.specs.Lists.{tabulate}
use Rattle.fields.specs.Elements.{xor, scale}
use Rattle.fields.specs.Places.{at, differs, apart}
use Rattle.fields.specs.Steps.Buffers.{Placed}
use Rattle.fields.proofs.Lists.{tabulate_at, tabulate_length, tabulate_same}
use Rattle.fields.proofs.Xor.{xor_cancel, xor_zero_r}
use Rattle.fields.proofs.Places.Counting.{sum_same}
use Rattle.fields.proofs.Places.Differences.{apart_tables}
use Rattle.decoding.proofs.Decoding.Changes.{differs_sum}
use Rattle.words.specs.Bits.{bit_of, bit_at}
use Rattle.words.specs.InnerWords.{inner_word}
use Rattle.words.proofs.Bits.Numbers.{bit_of_lt, bit_of_number}
use Rattle.words.proofs.Codes.Horner.{scale_one, scale_zero}
use Rattle.words.proofs.Codes.ShiftedBits.{bit_of_sum}
use Rattle.inner_words.specs.Steps.BitSliced.{place_at, byte_of64}
use Rattle.inner_words.specs.Steps.Candidates.{Flipped, flip_bit, AsBlock, flips_in}
use Rattle.inner_words.proofs.Interleaving.BitSliced.{place_bit, bit_product}
use Rattle.inner_words.proofs.Passes.Counts.{bit_is}

-- ---- one place of every inner word, written

-- the bits of a place that is written, and of the others
module _ (p x : ℕ) (before after : List ℕ) (s : Placed (8 * p) (tabulate 8 (byte_of64 x)) before after) where
  place_inside : (k : ℕ) → k < 64 → bit_at after (64 * p + k) ≡ bit_of 64 x k
  unfolding bit_at byte_of64
  place_inside k l =
      let q : (64 * p + k) / 8 ≡ 8 * p + k / 8 = omega arith in
      let r : (64 * p + k) % 8 ≡ k % 8 = omega arith in
      rw (q, r) (ap (λ (y : ℕ). bit_of 8 y (k % 8))
      (s.inside (k / 8) (omega (arith, tabulate_length 8 (byte_of64 x))) ∙ tabulate_at 8 (byte_of64 x) (k / 8) 0 (omega arith))
      ∙ bit_of_number (λ i. bit_of 64 x (8 * (k / 8) + i)) (λ i. bit_of_lt 64 x _) 8 (k % 8) (omega arith) ∙ ap (bit_of 64 x) (omega arith))

  place_outside : (i : ℕ) → (i / 64 ≡ p → ⊥) → bit_at after i ≡ bit_at before i
  unfolding bit_at
  place_outside i n = ap (λ (y : ℕ). bit_of 8 y (i % 8)) (go (dec_lt (i / 8) (8 * p)))
    where
      go : Dec (i / 8 < 8 * p) → at after (i / 8) ≡ at before (i / 8)
      go (yes l) = s.below (i / 8) l
      go (no g) = s.above (i / 8) (at_least (dec_lt (i / 8) (8 * p + 8)))
        where
          at_least : Dec (i / 8 < 8 * p + 8) → 8 * p + length (tabulate 8 (byte_of64 x)) ≤ i / 8
          at_least (yes m) = absurd (n (omega arith))
          at_least (no m) = omega (arith, tabulate_length 8 (byte_of64 x))

-- ---- all places

-- what a bit becomes
abbrev flipped_bit : List ℕ → ℕ → List ℕ → ℕ → ℕ
flipped_bit flips mask before i = xor (bit_at before i) (bit_of 64 (bit_and (at flips (i / 64)) mask) (i % 64))

-- the invariant: the first p places are inverted as the candidates ask
pub record Flipping (flips : List ℕ) (mask : ℕ) (before : List ℕ) (p : ℕ) (after : List ℕ) : Type 0 where
  pub within : p ≤ 2040
  pub long : length after ≡ length before
  pub done : (i : ℕ) → i / 64 < p → bit_at after i ≡ flipped_bit flips mask before i
  pub ahead : (i : ℕ) → p ≤ i / 64 → bit_at after i ≡ bit_at before i

pub flipping_start : {flips before : List ℕ} {mask : ℕ} → Flipping flips mask before 0 before
flipping_start = record { within = zero-le; long = refl; done = λ i h. absurd (not-suc-le-zero h); ahead = λ i h. refl }

pub flipping_next : {flips before after next : List ℕ} {mask p y : ℕ} → Flipping flips mask before p after → p < 2040 → y ≡ place_at after p →
    Placed (8 * p) (tabulate 8 (byte_of64 (bit_xor y (bit_and (at flips p) mask)))) after next → Flipping flips mask before (p + 1) next
unfolding xor
flipping_next {flips} {before} {after} {next} {mask} {p} {y} s h ey put =
    record {
      within = omega arith;
      long = put.long ∙ s.long;
      done = λ i l. here i l (ℕ_discrete (i / 64) p);
      ahead = λ i l. place_outside p _ after next put i (λ e. omega arith) ∙ s.ahead i (omega arith);
    }
  where
    here : (i : ℕ) → i / 64 < p + 1 → Dec (i / 64 ≡ p) → bit_at next i ≡ flipped_bit flips mask before i
    here i l (yes e) =
        let q : i ≡ 64 * p + i % 64 = omega arith in
        let old : bit_of 64 y (i % 64) ≡ bit_at before i =
        ap (λ (z : ℕ). bit_of 64 z (i % 64)) ey ∙ place_bit after p (i % 64) (omega arith) ∙ ap (bit_at after) (sym q) ∙ s.ahead i (omega arith) in
        ap (bit_at next) q ∙ place_inside p _ after next put (i % 64) (omega arith)
        ∙ bit_of_sum 64 (i % 64) y (bit_and (at flips p) mask) ∙ rw (e) (ap (λ (z : ℕ). bit_xor z (bit_of 64 (bit_and (at flips p) mask) (i % 64))) old)
    here i l (no e) = place_outside p _ after next put i e ∙ s.done i (omega arith)

pub flipping_end : {flips before after : List ℕ} {mask p : ℕ} → Flipping flips mask before p after → 2040 ≤ p → Flipped flips mask before after
flipping_end s h = record { long = s.long; bits = λ i b. s.done i (omega arith) }

-- ---- the candidates as a block

-- the invariant: the first p places are written
pub record Writing (flips : List ℕ) (p : ℕ) (after : List ℕ) : Type 0 where
  pub within : p ≤ 2040
  pub long : length after ≡ 16320
  pub done : (i : ℕ) → i / 64 < p → bit_at after i ≡ flip_bit flips i

pub writing_start : {flips after : List ℕ} → length after ≡ 16320 → Writing flips 0 after
writing_start long = record { within = zero-le; long = long; done = λ i h. absurd (not-suc-le-zero h) }

pub writing_next : {flips after next : List ℕ} {p : ℕ} → Writing flips p after → p < 2040 → Placed (8 * p) (tabulate 8 (byte_of64 (at flips p))) after next →
    Writing flips (p + 1) next
unfolding flip_bit
writing_next {flips} {after} {next} {p} s h put =
    record { within = omega arith; long = put.long ∙ s.long; done = λ i l. here i l (ℕ_discrete (i / 64) p) }
  where
    here : (i : ℕ) → i / 64 < p + 1 → Dec (i / 64 ≡ p) → bit_at next i ≡ bit_of 64 (at flips (i / 64)) (i % 64)
    here i l (yes e) =
        let q : i ≡ 64 * p + i % 64 = omega arith in
        ap (bit_at next) q ∙ place_inside p (at flips p) after next put (i % 64) (omega arith) ∙ rw e
    here i l (no e) = place_outside p (at flips p) after next put i e ∙ s.done i (omega arith)

pub writing_end : {flips after : List ℕ} {p : ℕ} → Writing flips p after → 2040 ≤ p → AsBlock flips after
writing_end s h = record { long = s.long; bits = λ i b. s.done i (omega arith) }

-- ---- the inner words

module _ (flips : List ℕ) (mask : ℕ) (before after : List ℕ) (f : Flipped flips mask before after) (k : ℕ) (l : k < 64) where
  flipped_place : (p : ℕ) → p < 2040 → bit_at after (64 * p + k) ≡ xor (bit_at before (64 * p + k)) (scale (bit_of 64 (at flips p) k) (bit_of 64 mask k))
  flipped_place p h =
      let q : (64 * p + k) / 64 ≡ p = omega arith in
      let r : (64 * p + k) % 64 ≡ k = omega arith in
      rw (q, r) at (f.bits (64 * p + k) (omega arith)) ∙ ap (xor (bit_at before (64 * p + k))) (bit_product 64 k (at flips p) mask)

  -- an inner word outside the mask stays
  pub outside_mask : bit_of 64 mask k ≡ 0 → inner_word (bit_at after) k ≡ inner_word (bit_at before) k
  unfolding inner_word
  outside_mask e =
      tabulate_same 2040 _ _ (λ p h.
      flipped_place p h ∙ ap (xor (bit_at before (64 * p + k))) (rw e (scale_zero (bit_of 64 (at flips p) k))) ∙ xor_zero_r (bit_at before (64 * p + k)))

  module _ (e : bit_of 64 mask k ≡ 1) where
    abbrev bit : ℕ → ℕ
    bit p = bit_at before (64 * p + k)

    abbrev flip : ℕ → ℕ
    flip p = bit_of 64 (at flips p) k

    pub flipped_once : (p : ℕ) → p < 2040 → bit_at after (64 * p + k) ≡ xor (bit p) (flip p)
    flipped_once p h = flipped_place p h ∙ ap (xor (bit p)) (rw e (scale_one (flip p) (bit_of_lt 64 (at flips p) k)))

    -- an inner word is as far from what it was as it has places inverted
    pub flips_apart : apart (inner_word (bit_at before) k) (inner_word (bit_at after) k) ≡ flips_in flips k
    unfolding inner_word flips_in
    flips_apart =
        apart_tables 2040 bit (λ p. bit_at after (64 * p + k)) ∙ sum_same 2040 _ flip (λ p h.
        ap (differs (bit p)) (flipped_once p h) ∙ sym (differs_sum (bit p) (xor (bit p) (flip p)))
        ∙ ap (λ (x : ℕ). differs x 0) (xor_cancel (bit p) (flip p)) ∙ sym (bit_is (flip p) (bit_of_lt 64 (at flips p) k)))
