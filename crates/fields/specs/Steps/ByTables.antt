-- What the functions over lent tables give: es is lent for the powers of 2, ls for the exponents.
use Rattle.std.specs.Prelude.{◌≡◌, cond, List, ℕ, ◌+◌, ◌-◌, ◌%◌, eqb, ltb, length, get_or}
use Rattle.std.specs.Int.Bits.{bit_and}
use Rattle.fields.specs.Elements.{powers, exponents}
use Rattle.fields.specs.Field.{Field}

-- the place of x in a table of n entries, n a power of two: the low bits of x
unfoldable pub place_in : ℕ → ℕ → ℕ
place_in n x = bit_and x (n - 1)

-- the entry at the exponent i, counted modulo the table's length
unfoldable pub table_power : List ℕ → ℕ → ℕ
table_power es i = get_or es (i % length es) 0

-- i, less n where it is not below n: a number below twice n comes below n
unfoldable pub wrapped : ℕ → ℕ → ℕ
wrapped n i = cond (ltb i n) i (i - n)

-- the entry at the exponent i, less the table's length where it is past the end; 0 from twice the length on
unfoldable pub power_near : List ℕ → ℕ → ℕ
power_near es i = get_or es (wrapped (length es) i) 0

-- 0 if a factor's place is 0; else the power whose exponent is the sum of the two
unfoldable pub product_at : List ℕ → List ℕ → ℕ → ℕ → ℕ
product_at es ls a b = cond (eqb a 0) 0 (cond (eqb b 0) 0 (power_near es (get_or ls a 0 + get_or ls b 0)))

unfoldable pub table_product : List ℕ → List ℕ → ℕ → ℕ → ℕ
table_product es ls x y = product_at es ls (place_in (length ls) x) (place_in (length ls) y)

-- 0 if the place is 0; else the power whose exponent fills up to the table's length
unfoldable pub inverse_at : List ℕ → List ℕ → ℕ → ℕ
inverse_at es ls a = cond (eqb a 0) 0 (power_near es (length es - get_or ls a 0))

unfoldable pub table_inverse : List ℕ → List ℕ → ℕ → ℕ
table_inverse es ls x = inverse_at es ls (place_in (length ls) x)

-- the tables are those of the field of degree m and polynomial p
pub record FieldTables (m p : ℕ) (es ls : List ℕ) : Type 0 where
  pub field : Field m p
  pub exp : es ≡ powers m p
  pub log : ls ≡ exponents m p
