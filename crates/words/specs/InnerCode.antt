-- The inner code: binary words of 2,040 places, 88 parity bits ("check bits") at the end.
-- A binary polynomial is a number whose bit i is the coefficient of z^i.
use Rattle.std.specs.Prelude.{Bool, ◌&&◌, List, [], ◌∷◌, ℕ, zero, suc, ◌*◌, ◌/◌, ◌%◌, eqb, length}
use Rattle.fields.specs.Lists.{tabulate}
use Rattle.fields.specs.Elements.{xor, scale, doubled, power, times_b}
use Rattle.fields.specs.Places.{at, all_below, horner}
use Rattle.words.specs.Bits.{bit_of}

-- the binary polynomial r of degree below n at the point that f multiplies by, times y
unfoldable pub value_of : (ℕ → ℕ) → ℕ → ℕ → ℕ → ℕ
value_of f y zero r = 0
value_of f y (suc n) r = xor (f (value_of f y n (r / 2))) (scale (r % 2) y)

-- a to the i-th in field B, and the polynomial r of degree below n there
abbrev pub power_b : ℕ → ℕ
power_b = power 11 2053

abbrev pub value_b : ℕ → ℕ → ℕ → ℕ
value_b i n r = value_of (λ v. times_b v (power_b i)) 1 n r

-- the eight factors: the least polynomials of a, a^3, a^5, a^7, a^9, a^11, a^13 and a^15 in field B, as 12-bit numbers
unfoldable pub factors : List ℕ
factors = 2053 ∷ 2341 ∷ 2189 ∷ 2093 ∷ 3085 ∷ 3851 ∷ 2147 ∷ 2419 ∷ []

-- the product of the first n factors: a factor at the point z, times the product of those before it; the divisor is that of all eight
unfoldable pub product_of : ℕ → ℕ
product_of zero = 1
product_of (suc n) = value_of (λ v. 2 * v) (product_of n) 12 (at factors n)

unfoldable pub divisor : ℕ
divisor = product_of 8

-- the remainder of a binary word, the first place at the highest power, after division by the polynomial p of degree m: Horner's rule at z, where a
-- step takes p away if a term z^m comes up
abbrev pub remainder : ℕ → ℕ → (ℕ → ℕ) → ℕ → ℕ
remainder m p = horner (doubled m p)

-- an inner code word: 2,040 places that the divisor divides
unfoldable pub is_inner : List ℕ → Bool
is_inner w = eqb (length w) 2040 && (all_below 2 w && eqb (remainder 88 divisor (at w) 2040) 0)

-- the parity bits of 1,952 data bits: the remainder of the data followed by 88 zeros, the highest power first
unfoldable pub inner_remainder : List ℕ → ℕ
inner_remainder d = remainder 88 divisor (at d) 2040

unfoldable pub inner_parity : List ℕ → List ℕ
inner_parity d = tabulate 88 (bit_of 88 (inner_remainder d))
