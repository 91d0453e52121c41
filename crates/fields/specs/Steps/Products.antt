-- Products without division (document 02, A.4): what is proved of every answer that the contract of `product` allows, lent the tables of a field.
use Rattle.std.specs.Prelude.{◌≡◌, ℕ, ◌+◌, ◌-◌, ◌%◌, ◌^◌, ◌≤◌, ◌<◌, length}
use Rattle.fields.specs.Elements.{times, powers, exponents}
use Rattle.fields.specs.Places.{at}
use Rattle.fields.specs.Steps.ByTables.{table_product, FieldTables}

-- r is an answer to x and y, lent the tables of the field of degree m and polynomial p: the two clauses of the contract
pub record ProductAnswer (m p x y r : ℕ) : Type 0 where
  pub by_tables : r ≡ table_product (powers m p) (exponents m p) x y
  pub in_field : (n q : ℕ) → FieldTables n q (powers m p) (exponents m p) → r ≡ times n q (x % 2 ^ n) (y % 2 ^ n)

-- the sum of the two exponents that the table has
abbrev pub exponent_sum : ℕ → ℕ → ℕ → ℕ → ℕ
exponent_sum m p x y = at (exponents m p) x + at (exponents m p) y

pub record Products (m p : ℕ) : Type 0 where
  -- the answer is the product, for all pairs of elements; with 0 it is 0
  pub all : (x y r : ℕ) → x < 2 ^ m → y < 2 ^ m → ProductAnswer m p x y r → r ≡ times m p x y
  pub zero_first : (y r : ℕ) → ProductAnswer m p 0 y r → r ≡ 0
  pub zero_second : (x r : ℕ) → ProductAnswer m p x 0 r → r ≡ 0
  -- two exponents add up to less than twice the length of the table of powers
  pub below_twice : (x y : ℕ) → exponent_sum m p x y < length (powers m p) + length (powers m p)
  -- so one comparison and one subtraction serve: the answer is the power at the sum where that is below the length, else at the sum less the length
  pub sum_low : (x y r : ℕ) → 0 < x → x < 2 ^ m → 0 < y → y < 2 ^ m → ProductAnswer m p x y r → exponent_sum m p x y < length (powers m p) → r ≡ at (powers m p) (exponent_sum m p x y)
  pub sum_high : (x y r : ℕ) → 0 < x → x < 2 ^ m → 0 < y → y < 2 ^ m → ProductAnswer m p x y r → length (powers m p) ≤ exponent_sum m p x y →
      r ≡ at (powers m p) (exponent_sum m p x y - length (powers m p))

-- for fields A, B and C
pub record ProductLaws : Type 0 where
  pub field_a : Products 10 1033
  pub field_b : Products 11 2053
  pub field_c : Products 8 285
