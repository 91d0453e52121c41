-- Laws of `scale` and `doubled`, for any degree m and polynomial p: they respect sums, with no bounds. That p has degree m (`degree`) is
-- needed only where a result is to stay below 2^m. Assumes nothing.
use mathlib.Core.Path.{◌≡◌, refl, sym}
use Prim.Native.Nat.{ℕ, zero, suc, ◌*◌, ◌/◌, ◌%◌, ◌^◌, ◌≤◌, ◌<◌}
use native.Mathlib.Nat.{div-eq_of_lt, div-eq_of_lt-le, div-lt_iff_lt-mul, mod-eq_of_lt}
use native.Mathlib.Omega.{arith}
use lib.Pow.{pow_mono, pow_pos}
use Rattle.fields.specs.Elements.{xor, scale, doubled}
use Rattle.fields.proofs.Xor.{xor_zero_l, xor_zero_r, xor_self, xor_comm, xor_four, xor_high, xor_bit, xor_double}

-- a field has two elements at least
pub two_le : (m : ℕ) → 0 < m → 2 ≤ 2 ^ m
two_le m h = pow_mono h

pub scale_sum : (t x y : ℕ) → scale t (xor x y) ≡ xor (scale t x) (scale t y)
unfolding scale
scale_sum zero x y = sym (xor_self 0)
scale_sum (suc t) x y = refl

sum_scale : (s t x : ℕ) → s < 2 → t < 2 → scale (xor s t) x ≡ xor (scale s x) (scale t x)
unfolding scale xor
sum_scale zero t x hs ht = refl
sum_scale (suc zero) zero x hs ht = sym (xor_zero_r x)
sum_scale (suc zero) (suc zero) x hs ht = sym (xor_self x)
sum_scale (suc zero) (suc (suc t)) x hs ht = absurd (omega arith)
sum_scale (suc (suc s)) t x hs ht = absurd (omega arith)

pub bits_scale : (s t x : ℕ) → scale (xor (s % 2) (t % 2)) x ≡ xor (scale (s % 2) x) (scale (t % 2) x)
bits_scale s t x = sum_scale (s % 2) (t % 2) x (omega arith) (omega arith)

pub scale_lt : (t x q : ℕ) → 0 < q → x < q → scale t x < q
unfolding scale
scale_lt zero x q hq hx = hq
scale_lt (suc t) x q hq hx = hx

module _ (m p : ℕ) where
  top_sum : (x y : ℕ) → 2 * xor x y / 2 ^ m % 2 ≡ xor (2 * x / 2 ^ m % 2) (2 * y / 2 ^ m % 2)
  top_sum x y = rw (xor_double, xor_high, xor_bit)

  pub doubled_sum : (x y : ℕ) → doubled m p (xor x y) ≡ xor (doubled m p x) (doubled m p y)
  unfolding doubled
  doubled_sum x y = rw (top_sum, bits_scale, xor_double) (xor_four _ _ _ _)

  -- as a comparison and a subtraction give it
  pub doubled_below : (x : ℕ) → 2 * x < 2 ^ m → doubled m p x ≡ 2 * x
  unfolding doubled scale
  doubled_below x h = rw (div-eq_of_lt h) (xor_zero_l (2 * x))

  pub doubled_above : (x : ℕ) → x < 2 ^ m → 2 ^ m ≤ 2 * x → doubled m p x ≡ xor (2 * x) p
  unfolding doubled scale
  doubled_above x h g =
      let e : 2 * x / 2 ^ m ≡ 1 = div-eq_of_lt-le (2 ^ m) (omega arith) (omega arith) in
      rw e (xor_comm p (2 * x))

  module _ (degree : p / 2 ^ m ≡ 1) where
    scale_high : (t : ℕ) → t < 2 → scale t p / 2 ^ m ≡ t
    unfolding scale
    scale_high zero h = div-eq_of_lt (pow_pos m)
    scale_high (suc zero) h = degree
    scale_high (suc (suc t)) h = absurd (omega arith)

    below : (x : ℕ) → x / 2 ^ m ≡ 0 → x < 2 ^ m
    below x e = let h : x < 1 * 2 ^ m = (div-lt_iff_lt-mul (pow_pos m)).0 (omega arith) in omega arith

    pub doubled_lt : (x : ℕ) → x < 2 ^ m → doubled m p x < 2 ^ m
    unfolding doubled
    doubled_lt x h =
        let u : 2 * x / 2 ^ m < 2 = (div-lt_iff_lt-mul (pow_pos m)).1 (omega arith) in
        below _ (rw (xor_high, mod-eq_of_lt u, scale_high (2 * x / 2 ^ m) u) (xor_self _))
