-- Laws of the bits of a number and the number of bits: `bit_of` and `number_of` are each other's inverse. Assumes nothing.
use mathlib.Core.Path.{◌≡◌, refl, sym, ap, ap₂, ◌∙◌}
use mathlib.Core.Logic.{◌⊎◌, inl, inr}
use Prim.Native.Nat.{ℕ, zero, suc, ◌+◌, ◌-◌, ◌*◌, ◌/◌, ◌%◌, ◌^◌, ◌<◌, ◌≤◌, min}
use native.Mathlib.Nat.{add-suc, add-zero, div-eq_of_lt, eq-or-lt_of_le, le_of_suc-le-suc, le_refl, not-suc-le-zero, pow-suc}
use native.Mathlib.Omega.{arith}
use lib.Arith.{lt-one}
use lib.Pow.{pow_pos, shr-shr}
use Rattle.fields.specs.Places.{sum_to, differs}
use Rattle.fields.proofs.Places.Counting.{differs_none, differs_by}
use Rattle.fields.proofs.Places.Differences.{sum_at_lem}
use Rattle.words.specs.Bits.{bit_of, number_of}
use mir.Syntax.{w8}
use mir.Val.{Fits}
use lib.Bits.{bit_and, and_mask}

pub bit_of_lt : (n x i : ℕ) → bit_of n x i < 2
unfolding bit_of
bit_of_lt n x i = omega arith

pub bit_of_zero : (n i : ℕ) → bit_of n 0 i ≡ 0
unfolding bit_of
bit_of_zero n i = ap (λ (z : ℕ). z % 2) (div-eq_of_lt (pow_pos (n - suc i)))

-- all bits but the last are those of the half
pub bit_of_half : (n x i : ℕ) → i < n → bit_of (suc n) x i ≡ bit_of n (x / 2) i
unfolding bit_of
bit_of_half n x i h =
    let e : suc n - suc i ≡ 1 + (n - suc i) = omega arith in
    ap (λ (x : ℕ). x % 2) (ap (λ (k : ℕ). x / 2 ^ k) e ∙ sym (shr-shr x 1 (n - suc i)))

pub bit_of_last : (n x : ℕ) → bit_of (suc n) x n ≡ x % 2
unfolding bit_of
bit_of_last n x = let e : suc n - suc n ≡ 0 = omega arith in rw e (omega arith)

pub number_of_same : (n : ℕ) (b c : ℕ → ℕ) → ((i : ℕ) → i < n → b i ≡ c i) → number_of n b ≡ number_of n c
unfolding number_of
number_of_same zero b c h = refl
number_of_same (suc n) b c h = ap₂ (λ (x y : ℕ). 2 * x + y) (number_of_same n b c (λ i l. h i (omega arith))) (h n (le_refl (suc n)))

-- the number of m bits and the n bits after them
pub number_parts : (m n : ℕ) (b : ℕ → ℕ) → number_of (m + n) b ≡ number_of m b * 2 ^ n + number_of n (λ j. b (m + j))
unfolding number_of
number_parts m zero b = ap (λ (k : ℕ). number_of k b) (add-zero m) ∙ omega arith
number_parts m (suc n) b = rw (add-suc, number_of) (omega (arith, number_parts m n b, ap (λ (x : ℕ). number_of m b * x) (pow-suc 2 n)))

pub number_of_bits_lem : (n x : ℕ) → x < 2 ^ n → number_of n (bit_of n x) ≡ x
unfolding number_of
number_of_bits_lem zero x h = sym (lt-one h)
number_of_bits_lem (suc n) x h =
    rw (number_of_same n (bit_of (suc n) x) (bit_of n (x / 2)) (bit_of_half n x), number_of_bits_lem n (x / 2) (omega arith), bit_of_last n x) (omega arith)

module _ (b : ℕ → ℕ) (bits : (i : ℕ) → b i < 2) where
  pub number_of_lt : (n : ℕ) → number_of n b < 2 ^ n
  unfolding number_of
  number_of_lt zero = pow_pos 0
  number_of_lt (suc n) = omega (arith, number_of_lt n, bits n)

  last_or_before : (n i : ℕ) → (i ≡ n) ⊎ (i < n) → (i < n → bit_of n (number_of n b) i ≡ b i) → bit_of (suc n) (2 * number_of n b + b n) i ≡ b i
  last_or_before n i (inl e) before = rw e (bit_of_last n _ ∙ omega (arith, bits n))
  last_or_before n i (inr l) before =
      let e : (2 * number_of n b + b n) / 2 ≡ number_of n b = omega (arith, bits n) in
      bit_of_half n _ i l ∙ rw e (before l)

  pub bit_of_number : (n i : ℕ) → i < n → bit_of n (number_of n b) i ≡ b i
  unfolding number_of
  bit_of_number zero i h = absurd (not-suc-le-zero h)
  bit_of_number (suc n) i h = last_or_before n i (eq-or-lt_of_le (le_of_suc-le-suc h)) (bit_of_number n i)

-- two numbers differ only where a bit does; h is at least 1 at each bit that differs
pub number_differs : (n : ℕ) (b c h : ℕ → ℕ) → ((j : ℕ) → j < n → differs (b j) (c j) ≤ h j) →
    differs (number_of n b) (number_of n c) ≤ min 1 (sum_to n h)
number_differs n b c h d =
    differs_by (number_of n b) (number_of n c) (min 1 (sum_to n h))
    (λ e. number_of_same n b c (λ j l. differs_none (b j) (c j) (omega (arith, d j l, sum_at_lem n h j l))))

-- what a mask leaves fits
pub one_fit : (x : ℕ) → Fits w8 (bit_and x 1)
one_fit x = record { fits = omega (arith, and_mask x 1) }

pub eight_fit : (x : ℕ) → Fits w8 (bit_and x 255)
eight_fit x = record { fits = omega (arith, and_mask x 8) }

pub masked_bit : (n x k s : ℕ) → s ≡ n - suc k → bit_and (x / 2 ^ s) 1 ≡ bit_of n x k
unfolding bit_of
masked_bit n x k s e = and_mask (x / 2 ^ s) 1 ∙ ap (λ (j : ℕ). x / 2 ^ j % 2) e
