-- Laws of the bits of sums, of twice a number, and of a bit times a power of two. Assumes nothing.
use mathlib.Core.Path.{◌≡◌, refl, sym, ap, ◌∙◌}
use Prim.Native.Nat.{ℕ, zero, suc, ◌+◌, ◌-◌, ◌*◌, ◌/◌, ◌%◌, ◌^◌, ◌<◌}
use native.Mathlib.Nat.{pow-suc}
use native.Mathlib.Numerals.{one-add}
use native.Mathlib.Omega.{arith}
use lib.Pow.{pow-add, shl-shr, shr-shr}
use Rattle.fields.specs.Elements.{scale}
use Rattle.fields.proofs.Xor.{xor_high, xor_bit}
use Rattle.words.specs.Bits.{bit_of}
use Rattle.words.proofs.Bits.Numbers.{bit_of_zero}
use Rattle.words.proofs.Codes.Horner.{Additive}

pub bit_of_sum : (n i : ℕ) → Additive (λ x. bit_of n x i)
unfolding bit_of
bit_of_sum n i x y = rw (xor_high, xor_bit)

pub bit_of_scale : (n i t x : ℕ) → bit_of n (scale t x) i ≡ scale t (bit_of n x i)
unfolding scale
bit_of_scale n i zero x = bit_of_zero n i
bit_of_scale n i (suc t) x = refl

pub twice_high : (x k : ℕ) → 2 * x / 2 ^ suc k ≡ x / 2 ^ k
twice_high x k =
    let e : 2 * x / 2 ^ 1 ≡ x = omega arith in
    ap (λ (j : ℕ). 2 * x / 2 ^ j) (sym (one-add k)) ∙ sym (shr-shr (2 * x) 1 k) ∙ ap (λ (y : ℕ). y / 2 ^ k) e

module _ (n : ℕ) where
  pub bit_of_twice : (x i : ℕ) → i < n → bit_of (suc n) (2 * x) i ≡ bit_of (suc n) x (suc i)
  unfolding bit_of
  bit_of_twice x i h =
      let e : suc n - suc i ≡ suc (suc n - suc (suc i)) = omega arith in
      ap (λ (y : ℕ). y % 2) (ap (λ (k : ℕ). 2 * x / 2 ^ k) e ∙ twice_high x (suc n - suc (suc i)))

  -- the bit that twice the number has past the n + 1 low ones is the first of them
  pub bit_of_top : (x : ℕ) → 2 * x / 2 ^ suc n % 2 ≡ bit_of (suc n) x 0
  unfolding bit_of
  bit_of_top x = let e : n ≡ suc n - 1 = omega arith in ap (λ (y : ℕ). y % 2) (twice_high x n ∙ ap (λ (k : ℕ). x / 2 ^ k) e)

  -- a bit s times 2^n: the first of n + 1 bits is s, the others are 0
  pub bit_of_first : (s : ℕ) → s < 2 → bit_of (suc n) (s * 2 ^ n) 0 ≡ s
  unfolding bit_of
  bit_of_first s h = let e : suc n - 1 ≡ n = omega arith in rw (e, shl-shr s n) (omega arith)

  pub bit_of_other : (s i : ℕ) → i < n → bit_of (suc n) (s * 2 ^ n) (suc i) ≡ 0
  unfolding bit_of
  bit_of_other s i h =
      let k = n - suc i in
      let e : suc n - suc (suc i) ≡ k = omega arith in
      let d : n ≡ suc i + k = omega arith in
      let q : s * 2 ^ n ≡ 2 * (s * 2 ^ i) * 2 ^ k = ap (λ (j : ℕ). s * 2 ^ j) d ∙ rw (pow-add 2 (suc i) k, pow-suc 2 i) (omega arith) in
      rw (e, q, shl-shr (2 * (s * 2 ^ i)) k) (omega arith)
