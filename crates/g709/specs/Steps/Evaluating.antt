-- How the values of sixteen polynomials are found at one power of a after another: from one to the next the coefficient of x^d is multiplied by a^d.
use Rattle.std.specs.Prelude.{List, ℕ, zero, suc, ◌+◌, ◌-◌, ◌*◌, ◌<◌}
use Rattle.fields.specs.Elements.{power, times_c}
use Rattle.fields.specs.Places.{at}
use Rattle.g709.specs.Steps.Folding.{sum_up_to}
use Rattle.g709.specs.Steps.Registers.{over}

-- column d multiplied by y
unfoldable pub column_scaled : List ℕ → ℕ → ℕ → List ℕ
column_scaled t d y = over t (16 * d) 16 (λ j. times_c (at t (16 * d + j)) y)

-- the first n columns multiplied, each by its power of a
unfoldable pub columns_scaled : List ℕ → ℕ → List ℕ
columns_scaled t zero = t
columns_scaled t (suc n) = column_scaled (columns_scaled t n) n (power 8 285 (8 - n))

-- the sum of the nine coefficients of polynomial k
unfoldable pub column_sum : List ℕ → ℕ → ℕ
column_sum t k = sum_up_to (λ d. at t (k + 16 * d)) 8

-- coefficients are elements of the field
pub record ColumnBytes (t : List ℕ) : Type 0 where
  pub small : (i : ℕ) → at t i < 256
