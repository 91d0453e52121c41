-- What is proved of a field, for any degree m and polynomial p, and products that tell field C from others.
use Rattle.std.specs.Prelude.{◌≡◌, ◌⊎◌, ℕ, ◌+◌, ◌-◌, ◌/◌, ◌%◌, ◌^◌, ◌<◌}
use Rattle.fields.specs.Elements.{xor, times, power, exponent, inverse, times_c}

-- the numbers below 2^m are a field of characteristic two, in which every element but 0 is a power of 2, once
pub record Field (m p : ℕ) : Type 0 where
  -- p has degree m, which is not 0
  pub positive : 0 < m
  pub degree : p / 2 ^ m ≡ 1
  -- sums are a group in which every element is its own opposite
  pub sum_lt : (x y : ℕ) → x < 2 ^ m → y < 2 ^ m → xor x y < 2 ^ m
  pub sum_comm : (x y : ℕ) → xor x y ≡ xor y x
  pub sum_assoc : (x y z : ℕ) → xor (xor x y) z ≡ xor x (xor y z)
  pub sum_zero : (x : ℕ) → xor x 0 ≡ x
  pub sum_self : (x : ℕ) → xor x x ≡ 0
  -- products respect sums on both sides, commute, associate and have the unit 1
  pub times_lt : (x y : ℕ) → x < 2 ^ m → times m p x y < 2 ^ m
  pub times_sum : (x y z : ℕ) → times m p x (xor y z) ≡ xor (times m p x y) (times m p x z)
  pub sum_times : (x y z : ℕ) → times m p (xor x y) z ≡ xor (times m p x z) (times m p y z)
  pub times_comm : (x y : ℕ) → x < 2 ^ m → y < 2 ^ m → times m p x y ≡ times m p y x
  pub times_assoc : (x y z : ℕ) → x < 2 ^ m → y < 2 ^ m → z < 2 ^ m → times m p (times m p x y) z ≡ times m p x (times m p y z)
  pub times_one : (x : ℕ) → x < 2 ^ m → times m p x 1 ≡ x
  pub times_zero : (x : ℕ) → times m p x 0 ≡ 0
  -- the square of a sum is the sum of the squares
  pub square_sum : (x y : ℕ) → x < 2 ^ m → y < 2 ^ m → times m p (xor x y) (xor x y) ≡ xor (times m p x x) (times m p y y)
  -- a product is 0 only where a factor is; every element but 0 has an inverse
  pub zero_product : (x y : ℕ) → x < 2 ^ m → y < 2 ^ m → times m p x y ≡ 0 → (x ≡ 0) ⊎ (y ≡ 0)
  pub inverse_lt : (x : ℕ) → inverse m p x < 2 ^ m
  pub times_inverse : (x : ℕ) → 0 < x → x < 2 ^ m → times m p x (inverse m p x) ≡ 1
  pub inverse_zero : inverse m p 0 ≡ 0
  -- powers multiply by adding exponents, which count modulo 2^m - 1
  pub power_lt : (i : ℕ) → power m p i < 2 ^ m
  pub power_pos : (i : ℕ) → 0 < power m p i
  pub power_sum_lem : (i j : ℕ) → times m p (power m p i) (power m p j) ≡ power m p (i + j)
  pub power_mod : (i : ℕ) → power m p (i % (2 ^ m - 1)) ≡ power m p i
  -- exponents and powers are each other's inverse
  pub exponent_lt : (x : ℕ) → exponent m p x < 2 ^ m - 1
  pub power_exponent : (x : ℕ) → 0 < x → x < 2 ^ m → power m p (exponent m p x) ≡ x
  pub exponent_power : (i : ℕ) → i < 2 ^ m - 1 → exponent m p (power m p i) ≡ i
  pub exponent_zero : exponent m p 0 ≡ 0
  -- products add exponents; an inverse has the opposite exponent
  pub times_exponents : (x y : ℕ) → 0 < x → x < 2 ^ m → 0 < y → y < 2 ^ m → times m p x y ≡ power m p (exponent m p x + exponent m p y)
  pub inverse_exponent : (x : ℕ) → 0 < x → x < 2 ^ m → inverse m p x ≡ power m p (2 ^ m - 1 - exponent m p x)

-- field C by its products: all of the above holds for other polynomials of degree 8 as well, and these do not
pub record PinnedC : Type 0 where
  pub carry : times_c 128 2 ≡ 29
  pub square : times_c 255 255 ≡ 226
  pub half : times_c 142 2 ≡ 1
