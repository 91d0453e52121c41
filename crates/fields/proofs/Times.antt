-- Laws of `times`, for any degree m and polynomial p: it respects sums on both sides, with no bounds; on elements below 2^m it is
-- commutative and associative and has the unit 1; and a product of powers is a power.
-- What respects sums and commutes with `doubled` commutes with every product (`linear`); with `doubled` and with products themselves for
-- such a map, (x y) z = (x z) y, and with 1 y = y the rest follows. Assumes nothing.
use mathlib.Core.Path.{◌≡◌, refl, sym, ap, ap₂, ◌∙◌}
use Prim.Native.Nat.{ℕ, zero, suc, ◌+◌, ◌*◌, ◌/◌, ◌%◌, ◌^◌, ◌≤◌, ◌<◌}
use native.Mathlib.Nat.{le_refl, zero-add, suc-add, pow-suc, div-eq_of_lt, div-add-mod'}
use native.Mathlib.Omega.{arith}
use lib.Arith.{lt-one}
use lib.Pow.{pow_pos, pow-lt}
use Rattle.fields.specs.Elements.{xor, scale, doubled, times_from, times, power}
use Rattle.fields.proofs.Xor.{xor_self, xor_comm, xor_assoc, xor_four, xor_lt, xor_shifted, xor_half, xor_bit, xor_cancel, additive_zero}
use Rattle.fields.proofs.Doubling.{two_le, scale_sum, bits_scale, scale_lt, doubled_sum, doubled_lt, doubled_below}

module _ (m p : ℕ) where
  sum_times_from : (n x y z : ℕ) → times_from m p n (xor x y) z ≡ xor (times_from m p n x z) (times_from m p n y z)
  unfolding times_from
  sum_times_from zero x y z = sym (xor_self 0)
  sum_times_from (suc n) x y z = rw (scale_sum, doubled_sum, sum_times_from n) (xor_four _ _ _ _)

  pub times_from_sum : (n x y z : ℕ) → times_from m p n x (xor y z) ≡ xor (times_from m p n x y) (times_from m p n x z)
  unfolding times_from
  times_from_sum zero x y z = sym (xor_self 0)
  times_from_sum (suc n) x y z = rw (xor_bit, xor_half, bits_scale, times_from_sum n) (xor_four _ _ _ _)

  pub sum_times : (x y z : ℕ) → times m p (xor x y) z ≡ xor (times m p x z) (times m p y z)
  unfolding times
  sum_times x y z = sum_times_from m x y z

  pub times_sum : (x y z : ℕ) → times m p x (xor y z) ≡ xor (times m p x y) (times m p x z)
  unfolding times
  times_sum x y z = times_from_sum m x y z

  pub zero_times : (y : ℕ) → times m p 0 y ≡ 0
  zero_times y = additive_zero (λ x. times m p x y) (λ x z. sum_times x z y)

  pub times_zero : (x : ℕ) → times m p x 0 ≡ 0
  times_zero x = additive_zero (times m p x) (times_sum x)

  module _ (f : ℕ → ℕ) (f_sum : (x y : ℕ) → f (xor x y) ≡ xor (f x) (f y)) (f-doubled : (x : ℕ) → f (doubled m p x) ≡ doubled m p (f x)) where
    f_scale : (t x : ℕ) → f (scale t x) ≡ scale t (f x)
    unfolding scale
    f_scale zero x = additive_zero f f_sum
    f_scale (suc t) x = refl

    linear : (n x y : ℕ) → f (times_from m p n x y) ≡ times_from m p n (f x) y
    unfolding times_from
    linear zero x y = additive_zero f f_sum
    linear (suc n) x y = rw (f_sum, f_scale, linear n, f-doubled)

  doubled_times_from : (n x y : ℕ) → times_from m p n (doubled m p x) y ≡ doubled m p (times_from m p n x y)
  doubled_times_from n x y = sym (linear (doubled m p) (doubled_sum m p) (λ z. refl) n x y)

  exchange : (x y z : ℕ) → times m p (times m p x y) z ≡ times m p (times m p x z) y
  unfolding times
  exchange x y z = linear (λ w. times_from m p m w z) (λ v w. sum_times_from m v w z) (λ w. doubled_times_from m w z) m x y

  -- 1 times y: the lowest digit of y, and the rest
  scale_mul : (t x : ℕ) → t < 2 → scale t x ≡ t * x
  unfolding scale
  scale_mul zero x h = omega arith
  scale_mul (suc zero) x h = omega arith
  scale_mul (suc (suc t)) x h = absurd (omega arith)

  digit : (k y t : ℕ) → t ≡ y / 2 * 2 ^ suc k → xor (scale (y % 2) (2 ^ k)) t ≡ y * 2 ^ k
  digit k y t e =
      ap (xor (scale (y % 2) (2 ^ k))) e ∙ xor_comm _ _
      ∙ xor_shifted (y / 2) (suc k) (scale (y % 2) (2 ^ k)) (scale_lt _ _ _ (pow_pos (suc k)) (pow-lt (le_refl (suc k))))
      ∙ rw (scale_mul (y % 2) (2 ^ k) (omega arith), pow-suc) (omega (arith, ap (λ (x : ℕ). x * 2 ^ k) (div-add-mod' y 2)))

  doubled_shift : (k : ℕ) → suc k < m → doubled m p (2 ^ k) ≡ 2 ^ suc k
  doubled_shift k h = let e : 2 * 2 ^ k ≡ 2 ^ suc k = omega arith in doubled_below m p (2 ^ k) (rw e (pow-lt h)) ∙ e

  one_from : (n k y : ℕ) → k + n ≤ m → y < 2 ^ n → times_from m p n (2 ^ k) y ≡ y * 2 ^ k
  unfolding times_from
  one_from zero k y hk hy = rw (lt-one hy) (omega arith)
  one_from (suc zero) k y hk hy = digit k y 0 (rw div-eq_of_lt (omega arith))
  one_from (suc (suc n)) k y hk hy =
      digit k y _ (ap (λ (x : ℕ). times_from m p (suc n) x (y / 2)) (doubled_shift k (omega arith)) ∙ one_from (suc n) (suc k) (y / 2) (omega arith) (omega arith))

  pub one_times : (y : ℕ) → y < 2 ^ m → times m p 1 y ≡ y
  unfolding times
  one_times y hy = one_from m 0 y (omega arith) hy ∙ omega arith

  pub times_comm : (x y : ℕ) → x < 2 ^ m → y < 2 ^ m → times m p x y ≡ times m p y x
  times_comm x y hx hy =
      ap (λ (z : ℕ). times m p z y) (sym (one_times x hx)) ∙ exchange 1 x y ∙ ap (λ (z : ℕ). times m p z x) (one_times y hy)

  pub square_sum : (x y : ℕ) → x < 2 ^ m → y < 2 ^ m → times m p (xor x y) (xor x y) ≡ xor (times m p x x) (times m p y y)
  square_sum x y hx hy =
      sum_times x y _ ∙ ap₂ xor (times_sum x x y) (times_sum y x y ∙ ap (λ (z : ℕ). xor z (times m p y y)) (times_comm y x hy hx))
      ∙ xor_assoc _ _ _ ∙ ap (xor (times m p x x)) (xor_cancel (times m p x y) (times m p y y))

  module _ (degree : p / 2 ^ m ≡ 1) where
    pub times_from_lt : (n x y : ℕ) → x < 2 ^ m → times_from m p n x y < 2 ^ m
    unfolding times_from
    times_from_lt zero x y h = pow_pos m
    times_from_lt (suc n) x y h = xor_lt m _ _ (scale_lt (y % 2) x (2 ^ m) (pow_pos m) h) (times_from_lt n _ _ (doubled_lt m p degree x h))

    pub times_lt : (x y : ℕ) → x < 2 ^ m → times m p x y < 2 ^ m
    unfolding times
    times_lt x y h = times_from_lt m x y h

    pub times_assoc : (x y z : ℕ) → x < 2 ^ m → y < 2 ^ m → z < 2 ^ m → times m p (times m p x y) z ≡ times m p x (times m p y z)
    times_assoc x y z hx hy hz =
        ap (λ (w : ℕ). times m p w z) (times_comm x y hx hy) ∙ exchange y x z ∙ times_comm (times m p y z) x (times_lt y z hy) hx

    module _ (positive : 0 < m) where
      pub times_one : (x : ℕ) → x < 2 ^ m → times m p x 1 ≡ x
      times_one x hx = times_comm x 1 hx (two_le m positive) ∙ one_times x hx

      pub power_lt : (i : ℕ) → power m p i < 2 ^ m
      unfolding power
      power_lt zero = two_le m positive
      power_lt (suc i) = doubled_lt m p degree _ (power_lt i)

      pub power_sum_lem : (i j : ℕ) → times m p (power m p i) (power m p j) ≡ power m p (i + j)
      unfolding power times
      power_sum_lem zero j = one_times _ (power_lt j) ∙ ap (power m p) (sym (zero-add j))
      power_sum_lem (suc i) j = doubled_times_from m _ _ ∙ ap (doubled m p) (power_sum_lem i j) ∙ ap (power m p) (sym (suc-add i j))
