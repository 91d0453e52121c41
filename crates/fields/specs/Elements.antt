-- The field of 2^m elements from the polynomial p of degree m over two elements, for any m and p.
-- An element is a number whose bit i is the coefficient of z^i, and so is p: 1,033 is z^10 + z^3 + 1. The element a of the codes is 2, z itself.
use Rattle.std.specs.Prelude.{ℕ, zero, suc, ◌-◌, ◌*◌, ◌/◌, ◌%◌, ◌^◌, List, eqb}
use Rattle.std.specs.Int.Bits.{bit_xor}
use Rattle.fields.specs.Lists.{tabulate, find}

-- the sum of two elements: the code's `^`
unfoldable pub xor : ℕ → ℕ → ℕ
xor x y = bit_xor x y

-- x where the bit is 1, and 0 where it is 0
unfoldable pub scale : ℕ → ℕ → ℕ
scale zero x = 0
scale (suc b) x = x

-- z times x: where a term z^m comes up, the polynomial is taken away
unfoldable pub doubled : ℕ → ℕ → ℕ → ℕ
doubled m p x = xor (scale (2 * x / 2 ^ m % 2) p) (2 * x)

-- the product by shift and add: the sum of z^i times x over those of the n low bits i of y that are 1
unfoldable pub times_from : ℕ → ℕ → ℕ → ℕ → ℕ → ℕ
times_from m p zero x y = 0
times_from m p (suc n) x y = xor (scale (y % 2) x) (times_from m p n (doubled m p x) (y / 2))

-- x times y
unfoldable pub times : ℕ → ℕ → ℕ → ℕ → ℕ
times m p x y = times_from m p m x y

-- 2 to the i-th
unfoldable pub power : ℕ → ℕ → ℕ → ℕ
power m p zero = 1
power m p (suc i) = doubled m p (power m p i)

-- the exponent of x: the i below 2^m - 1 with 2 to the i-th equal to x, or 0 if there is none
unfoldable pub exponent : ℕ → ℕ → ℕ → ℕ
exponent m p x = find (λ i. eqb (power m p i) x) (2 ^ m - 1)

-- one over x: the element y with x times y equal to 1, or 0 if there is none
unfoldable pub inverse : ℕ → ℕ → ℕ → ℕ
inverse m p x = find (λ y. eqb (times m p x y) 1) (2 ^ m)

-- the table of powers, and the table of exponents, its inverse
unfoldable pub powers : ℕ → ℕ → List ℕ
powers m p = tabulate (2 ^ m - 1) (power m p)

unfoldable pub exponents : ℕ → ℕ → List ℕ
exponents m p = tabulate (2 ^ m) (exponent m p)

-- field A: 1,024 elements, from z^10 + z^3 + 1
abbrev pub times_a : ℕ → ℕ → ℕ
times_a = times 10 1033

abbrev pub powers_a : List ℕ
powers_a = powers 10 1033

abbrev pub exponents_a : List ℕ
exponents_a = exponents 10 1033

-- field B: 2,048 elements, from z^11 + z^2 + 1
abbrev pub times_b : ℕ → ℕ → ℕ
times_b = times 11 2053

abbrev pub powers_b : List ℕ
powers_b = powers 11 2053

abbrev pub exponents_b : List ℕ
exponents_b = exponents 11 2053

-- field C: 256 elements, from z^8 + z^4 + z^3 + z^2 + 1
abbrev pub times_c : ℕ → ℕ → ℕ
times_c = times 8 285

abbrev pub powers_c : List ℕ
powers_c = powers 8 285

abbrev pub exponents_c : List ℕ
exponents_c = exponents 8 285
