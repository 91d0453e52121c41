-- The syndromes of the sixteen words of a row, side by side: value j of word k is byte 16 j + k.
use Rattle.std.specs.Prelude.{◌≡◌, List, ℕ, zero, suc, ◌+◌, ◌*◌, ◌<◌}
use Rattle.fields.specs.Elements.{xor, power, times_c, powers_c, exponents_c}
use Rattle.fields.specs.Places.{at, horner}
use Rattle.decoding.specs.Steps.ByTables.{root_values}
use Rattle.g709.specs.Rows.{received_bytes}
use Rattle.g709.specs.Steps.Registers.{over}
use Rattle.g709.specs.Steps.Restoring.{lane_of}

-- value j of the sixteen words multiplied by y, and column i of the remainders added
unfoldable pub value_stored : List ℕ → List ℕ → ℕ → ℕ → ℕ → List ℕ
value_stored s rest i j y = over s (16 * j) 16 (λ l. xor (times_c (at s (16 * j + l)) y) (at rest (16 * i + l)))

-- the first n values
unfoldable pub values_stored : List ℕ → List ℕ → ℕ → ℕ → List ℕ
values_stored s rest i zero = s
values_stored s rest i (suc n) = value_stored (values_stored s rest i n) rest i n (power 8 285 n)

-- the values at the sixteen roots of the first i columns
pub record SyndromesTo (rest : List ℕ) (i : ℕ) (s : List ℕ) : Type 0 where
  pub made : (j k : ℕ) → j < 16 → k < 16 → at s (16 * j + k) ≡ horner (λ v. times_c v (power 8 285 j)) (λ t. at rest (16 * t + k)) i

-- they are those of the words of row r
pub record RowSyndromes (b : List ℕ) (r : ℕ) (s : List ℕ) : Type 0 where
  pub each : (k : ℕ) → k < 16 → lane_of s k ≡ root_values powers_c exponents_c (received_bytes b (16 * r + k))
