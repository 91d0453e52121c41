-- What the functions over a field that is lent as its two tables give: es the powers, ls the exponents.
use Rattle.std.specs.Prelude.{List, ℕ, length}
use Rattle.fields.specs.Lists.{tabulate}
use Rattle.fields.specs.Steps.ByTables.{table_product, table_power}
use Rattle.fields.specs.Places.{at, horner}

-- the value of a word at x
unfoldable pub table_value : List ℕ → List ℕ → List ℕ → ℕ → ℕ
table_value es ls w x = horner (λ v. table_product es ls v x) (at w) (length w)

-- its value at a^j, and its values at the sixteen roots
unfoldable pub root_value : List ℕ → List ℕ → List ℕ → ℕ → ℕ
root_value es ls w j = table_value es ls w (table_power es j)

unfoldable pub root_values : List ℕ → List ℕ → List ℕ → List ℕ
root_values es ls w = tabulate 16 (root_value es ls w)
