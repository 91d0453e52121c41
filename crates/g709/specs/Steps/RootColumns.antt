-- Sixteen polynomials of degree at most 8 side by side, one for each word of a row, and their values at all powers of a.
use Rattle.std.specs.Prelude.{List, ℕ, ◌+◌, ◌*◌, ◌/◌, ◌%◌}
use Rattle.fields.specs.Lists.{tabulate}
use Rattle.fields.specs.Elements.{powers_c, exponents_c}
use Rattle.fields.specs.Steps.ByTables.{table_power}
use Rattle.fields.specs.Places.{at}
use Rattle.decoding.specs.Steps.ByTables.{table_value}

-- polynomial k: its coefficient d, highest power first, is byte 16 d + k
unfoldable pub polynomial_of : List ℕ → ℕ → List ℕ
polynomial_of terms k = tabulate 9 (λ d. at terms (16 * d + k))

-- its value at a^e; and all values, that of polynomial k at a^e being byte 16 e + k
unfoldable pub value_at_power : List ℕ → ℕ → ℕ → ℕ
value_at_power terms k e = table_value powers_c exponents_c (polynomial_of terms k) (table_power powers_c e)

unfoldable pub column_values : List ℕ → List ℕ
column_values terms = tabulate 4080 (λ i. value_at_power terms (i % 16) (i / 16))
