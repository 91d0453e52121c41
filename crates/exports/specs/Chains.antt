-- A chain of products, each of which waits for the one before it.
use Rattle.std.specs.Prelude.{List, ℕ, zero, suc}
use Rattle.fields.specs.Steps.ByTables.{table_product}

-- x times y, n times over, by the tables es and ls
unfoldable pub chain : List ℕ → List ℕ → ℕ → ℕ → ℕ → ℕ
chain es ls x y zero = x
chain es ls x y (suc n) = table_product es ls (chain es ls x y n) y
