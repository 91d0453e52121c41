-- A field in which 2 has the order 2^m - 1: products by exponents, no divisors of zero, inverses; and all the laws together.
-- Assumes nothing.
use mathlib.Core.Path.{◌≡◌, refl, sym, ap, ap₂, ◌∙◌}
use mathlib.Core.Logic.{◌⊎◌, inl, inr}
use Prim.Native.Nat.{ℕ, zero, suc, ◌+◌, ◌-◌, ◌^◌, ◌<◌}
use native.Mathlib.Nat.{add-sub_of_le, zero-lt-suc}
use native.Mathlib.Omega.{arith}
use lib.Dec.{eqb, eqb→eq}
use lib.Pow.{pow_pos}
use Rattle.fields.specs.Elements.{times, power, exponent, inverse}
use Rattle.fields.specs.Field.{Field}
use Rattle.fields.proofs.Lists.{find_found, find_lt, find_none}
use Rattle.fields.proofs.Xor as Xor
use Rattle.fields.proofs.Times as Times
use Rattle.fields.proofs.Cycle.{Cyclic}
use Rattle.fields.proofs.Powers as Powers

module _ (m p : ℕ) (C : Cyclic m p) where
  power_exponent : (x : ℕ) → 0 < x → x < 2 ^ m → power m p (exponent m p x) ≡ x
  power_exponent = Powers.power_exponent m p C

  times_exponents : (x y : ℕ) → 0 < x → x < 2 ^ m → 0 < y → y < 2 ^ m → times m p x y ≡ power m p (exponent m p x + exponent m p y)
  times_exponents x y x0 hx y0 hy = ap₂ (times m p) (sym (power_exponent x x0 hx)) (sym (power_exponent y y0 hy)) ∙ Powers.power_sum_lem m p C _ _

  zero_product : (x y : ℕ) → x < 2 ^ m → y < 2 ^ m → times m p x y ≡ 0 → (x ≡ 0) ⊎ (y ≡ 0)
  zero_product zero y hx hy e = inl refl
  zero_product (suc x) zero hx hy e = inr refl
  zero_product (suc x) (suc y) hx hy e =
      absurd (Powers.power_not_zero m p C _ (sym (times_exponents (suc x) (suc y) (zero-lt-suc x) hx (zero-lt-suc y) hy) ∙ e))

  -- the power with the opposite exponent
  opposite : ℕ → ℕ
  opposite x = power m p (2 ^ m - 1 - exponent m p x)

  times_opposite : (x : ℕ) → 0 < x → x < 2 ^ m → times m p x (opposite x) ≡ 1
  unfolding opposite
  times_opposite x x0 hx =
      let l = Powers.exponent_lt m p C x in
      ap (λ (z : ℕ). times m p z (opposite x)) (sym (power_exponent x x0 hx)) ∙ Powers.power_sum_lem m p C _ _
      ∙ ap (power m p) (add-sub_of_le (omega arith)) ∙ C.cycle

  -- an element has one inverse at most
  same_inverse : (x y z : ℕ) → x < 2 ^ m → y < 2 ^ m → z < 2 ^ m → times m p x y ≡ 1 → times m p x z ≡ 1 → y ≡ z
  same_inverse x y z hx hy hz ey ez =
      sym (Times.times_one m p C.degree C.positive y hy) ∙ ap (times m p y) (sym ez) ∙ sym (Times.times_assoc m p C.degree y x z hy hx hz)
      ∙ ap (λ (w : ℕ). times m p w z) (Times.times_comm m p y x hy hx ∙ ey) ∙ Times.one_times m p z hz

  inverse_lt : (x : ℕ) → inverse m p x < 2 ^ m
  unfolding inverse
  inverse_lt x = find_lt (λ y. eqb (times m p x y) 1) (2 ^ m) (pow_pos m)

  times_inverse : (x : ℕ) → 0 < x → x < 2 ^ m → times m p x (inverse m p x) ≡ 1
  unfolding inverse opposite
  times_inverse x x0 hx =
      eqb→eq (times m p x (inverse m p x)) 1
      (find_found (λ y. eqb (times m p x y) 1) (2 ^ m) (opposite x) (Powers.power_lt m p C _) (rw (times_opposite x x0 hx) tt)).1

  inverse_exponent : (x : ℕ) → 0 < x → x < 2 ^ m → inverse m p x ≡ power m p (2 ^ m - 1 - exponent m p x)
  unfolding opposite
  inverse_exponent x x0 hx = same_inverse x (inverse m p x) (opposite x) hx (inverse_lt x) (Powers.power_lt m p C _) (times_inverse x x0 hx) (times_opposite x x0 hx)

  inverse_zero : inverse m p 0 ≡ 0
  unfolding inverse
  inverse_zero = find_none (λ y. eqb (times m p 0 y) 1) (2 ^ m) (λ y h. rw (Times.zero_times m p y))

  pub field : Field m p
  field =
      record {
        positive = C.positive;
        degree = C.degree;
        sum_lt = Xor.xor_lt m;
        sum_comm = Xor.xor_comm;
        sum_assoc = Xor.xor_assoc;
        sum_zero = Xor.xor_zero_r;
        sum_self = Xor.xor_self;
        times_lt = Times.times_lt m p C.degree;
        times_sum = Times.times_sum m p;
        sum_times = Times.sum_times m p;
        times_comm = Times.times_comm m p;
        times_assoc = Times.times_assoc m p C.degree;
        times_one = Times.times_one m p C.degree C.positive;
        times_zero = Times.times_zero m p;
        square_sum = Times.square_sum m p;
        zero_product = zero_product;
        inverse_lt = inverse_lt;
        times_inverse = times_inverse;
        inverse_zero = inverse_zero;
        power_lt = Powers.power_lt m p C;
        power_pos = Powers.power_pos m p C;
        power_sum_lem = Powers.power_sum_lem m p C;
        power_mod = Powers.power_mod m p C;
        exponent_lt = Powers.exponent_lt m p C;
        power_exponent = power_exponent;
        exponent_power = Powers.exponent_power m p C;
        exponent_zero = Powers.exponent_zero m p C;
        times_exponents = times_exponents;
        inverse_exponent = inverse_exponent;
      }
