-- The residues of inner words, bit-sliced: one place more is one step of Horner's rule for each of them. Assumes nothing.
use mathlib.Core.Path.{◌≡◌, refl, sym, ap, ap₂, ◌∙◌}
use mathlib.Core.List.{List, ◌∷◌}
use Prim.Native.Nat.{ℕ, zero, suc, ◌+◌, ◌*◌, ◌/◌, ◌%◌, ◌^◌, ◌≤◌, ◌<◌}
use native.Mathlib.Nat.{div-eq_of_lt}
use native.Mathlib.Omega.{arith}
use lib.Dec.{lit<}
use lib.ListN.{length, replicate}
use lib.Pow.{pow_mono, pow_pos}
use Rattle.fields.specs.Elements.{xor, scale, doubled}
use Rattle.fields.specs.Lists.{tabulate}
use Rattle.fields.specs.Places.{at, horner}
use Rattle.fields.proofs.Lists.{tabulate_at, tabulate_is, tabulate_length, tabulate_same}
use Rattle.fields.proofs.Places.Filling.{zeros_at}
use Rattle.fields.proofs.Xor.{xor_assoc, xor_bit, xor_high, xor_lt, xor_zero_l, xor_zero_r}
use Rattle.lanes.specs.Steps.Sliced.{turned}
use Rattle.lanes.proofs.Sliced.{turned_lt, turned_twice}
use Rattle.words.specs.Bits.{bit_of, number_of, bit_at}
use Rattle.words.specs.InnerCode.{factors}
use Rattle.words.proofs.Bits.Bytes.{bit_at_lt}
use Rattle.words.proofs.Bits.Numbers.{bit_of_number, bit_of_zero, number_of_bits_lem, number_of_lt, number_of_same}
use Rattle.words.proofs.Codes.Horner.{scale_one, scale_zero}
use Rattle.words.proofs.Codes.ShiftedBits.{bit_of_sum, twice_high}
use Rattle.inner_words.specs.Steps.InnerResidues.{coefficient, bit_sliced, word_residue, swapped, loaded_at, residue_of, advanced}

-- ---- numbers of bits

number_none : (n : ℕ) → number_of n (λ k. 0) ≡ 0
number_none n = number_of_same n _ (bit_of n 0) (λ k l. sym (bit_of_zero n k)) ∙ number_of_bits_lem n 0 (pow_pos n)

number_sum : (n : ℕ) (f g : ℕ → ℕ) → ((k : ℕ) → f k < 2) → ((k : ℕ) → g k < 2) → number_of n (λ k. xor (f k) (g k)) ≡ xor (number_of n f) (number_of n g)
number_sum n f g hf hg =
    let x = number_of n f in
    let y = number_of n g in
    number_of_same n _ (bit_of n (xor x y)) (λ k l. sym (bit_of_sum n k x y ∙ ap₂ xor (bit_of_number f hf n k l) (bit_of_number g hg n k l)))
    ∙ number_of_bits_lem n (xor x y) (xor_lt n x y (number_of_lt f hf n) (number_of_lt g hg n))

number_scale : (n t : ℕ) (f : ℕ → ℕ) → number_of n (λ k. scale t (f k)) ≡ scale t (number_of n f)
unfolding scale
number_scale n zero f = number_none n
number_scale n (suc t) f = refl

-- ---- coefficients

pub coefficient_sum : (i x y : ℕ) → coefficient i (xor x y) ≡ xor (coefficient i x) (coefficient i y)
coefficient_sum i x y = rw (xor_high, xor_bit)

coefficient_scale : (i t x : ℕ) → t < 2 → coefficient i (scale t x) ≡ scale (coefficient i x) t
unfolding scale
coefficient_scale i zero x h = ap (λ (y : ℕ). y % 2) (div-eq_of_lt (pow_pos i)) ∙ sym (scale_zero (coefficient i x))
coefficient_scale i (suc zero) x h = sym (scale_one (coefficient i x) (omega arith))
coefficient_scale i (suc (suc t)) x h = absurd (omega arith)

-- one step of Horner's rule
module _ (p r b : ℕ) (b_lt : b < 2) where
  abbrev next : ℕ
  next = xor (doubled 11 p r) b

  next_coefficient : (i : ℕ) → coefficient i next ≡ xor (scale (coefficient i p) (coefficient 10 r)) (xor (coefficient i (2 * r)) (coefficient i b))
  unfolding doubled
  next_coefficient i =
      let top : 2 * r / 2 ^ 11 % 2 ≡ coefficient 10 r = omega arith in
      coefficient_sum i _ b ∙ ap (λ (x : ℕ). xor x (coefficient i b)) (coefficient_sum i _ (2 * r))
      ∙ ap (λ (x : ℕ). xor (xor x (coefficient i (2 * r))) (coefficient i b)) (coefficient_scale i _ p (omega arith) ∙ ap (scale (coefficient i p)) top)
      ∙ xor_assoc _ _ _

  next_first : coefficient 0 next ≡ xor (scale (coefficient 0 p) (coefficient 10 r)) b
  next_first =
      let even : coefficient 0 (2 * r) ≡ 0 = omega arith in
      let bit : coefficient 0 b ≡ b = omega arith in
      next_coefficient 0 ∙ rw (even, bit, xor_zero_l)

  next_later : (i : ℕ) → coefficient (suc i) next ≡ xor (scale (coefficient (suc i) p) (coefficient 10 r)) (coefficient i r)
  next_later i =
      let two : 2 ^ 1 ≤ 2 ^ suc i = pow_mono {i = 1} {j = suc i} (omega arith) in
      let none : b / 2 ^ suc i ≡ 0 = div-eq_of_lt (omega arith) in
      next_coefficient (suc i) ∙ rw (twice_high r i, none) (ap (xor _) (xor_zero_r _))

-- ---- residues, place by place

scaled_lt : (t x : ℕ) → scale t (coefficient 10 x) < 2
unfolding scale
scaled_lt zero x = omega arith
scaled_lt (suc t) x = omega arith

module _ (j : ℕ) (bytes : List ℕ) where
  abbrev bit : ℕ → ℕ → ℕ
  bit k p = bit_at bytes (64 * p + turned k)

  pub cell : (n i : ℕ) → i < 11 → at (residue_of j bytes n) i ≡ number_of 64 (λ k. coefficient i (word_residue j bytes n (turned k)))
  unfolding residue_of bit_sliced
  cell n i h = tabulate_at 11 _ i 0 h

  long : (n : ℕ) → length (residue_of j bytes n) ≡ 11
  unfolding residue_of bit_sliced
  long n = tabulate_length 11 _

  module _ (n : ℕ) where
    abbrev p : ℕ
    p = at factors j

    abbrev r : ℕ → ℕ
    r k = word_residue j bytes n (turned k)

    abbrev made : ℕ → ℕ
    made i = number_of 64 (λ k. coefficient i (word_residue j bytes (suc n) (turned k)))

    -- a coefficient that the bits h come into
    moved : (i x : ℕ) (h : ℕ → ℕ) → ((k : ℕ) → h k < 2) → x ≡ number_of 64 h →
        ((k : ℕ) → coefficient i (word_residue j bytes (suc n) (turned k)) ≡ xor (scale (coefficient i p) (coefficient 10 (r k))) (h k)) →
        xor (scale (coefficient i p) (at (residue_of j bytes n) 10)) x ≡ made i
    moved i x h bits e step =
        ap₂ xor (ap (scale (coefficient i p)) (cell n 10 (lit< tt)) ∙ sym (number_scale 64 (coefficient i p) _)) e
        ∙ sym (number_of_same 64 _ _ (λ k l. step k) ∙ number_sum 64 _ h (λ k. scaled_lt (coefficient i p) (r k)) bits)

    residue_cell : (i : ℕ) → i < 11 → xor (scale (coefficient i p) (at (residue_of j bytes n) 10)) (at (loaded_at bytes n ∷ residue_of j bytes n) i) ≡ made i
    unfolding loaded_at word_residue horner
    residue_cell zero l = moved 0 _ (λ k. bit k n) (λ k. bit_at_lt bytes _) refl (λ k. next_first p (r k) (bit k n) (bit_at_lt bytes _))
    residue_cell (suc i) l =
        moved (suc i) _ (λ k. coefficient i (r k)) (λ k. omega arith) (cell n i (omega arith)) (λ k. next_later p (r k) (bit k n) (bit_at_lt bytes _) i)

    pub residue_next : advanced p (residue_of j bytes n) (loaded_at bytes n) ≡ residue_of j bytes (suc n)
    unfolding advanced
    residue_next = tabulate_same 11 _ _ residue_cell ∙ whole
      where
        whole : tabulate 11 made ≡ residue_of j bytes (suc n)
        whole = sym (tabulate_is 11 made (residue_of j bytes (suc n)) 0 (long (suc n)) (cell (suc n)))

  -- no place yet
  none_cell : (i : ℕ) → i < 11 → at (replicate 11 0) i ≡ number_of 64 (λ k. coefficient i (word_residue j bytes 0 (turned k)))
  unfolding word_residue horner
  none_cell i l = zeros_at 11 i ∙ sym (number_of_same 64 _ (λ k. 0) (λ k m. ap (λ (x : ℕ). x % 2) (div-eq_of_lt (pow_pos i))) ∙ number_none 64)

  pub none_residue : replicate 11 0 ≡ residue_of j bytes 0
  unfolding residue_of bit_sliced
  none_residue = tabulate_is 11 _ (replicate 11 0) 0 refl none_cell

  -- turned round, they stand in the order of the inner words
  pub turned_cell : (n i : ℕ) → i < 11 → swapped (at (residue_of j bytes n) i) ≡ number_of 64 (λ k. coefficient i (word_residue j bytes n k))
  unfolding swapped
  turned_cell n i h =
      number_of_same 64 _ _ (λ k l. ap (λ (x : ℕ). bit_of 64 x (turned k)) (cell n i h) ∙ bit_of_number _ (λ k. omega arith) 64 (turned k) (turned_lt k l)
      ∙ ap (λ (m : ℕ). coefficient i (word_residue j bytes n m)) (turned_twice k l))
