-- The 64 inner words of a frame, bit-sliced: a number's bit k, the highest of 64 first, belongs to inner word k.
use Rattle.std.specs.Prelude.{List, ℕ, ◌+◌, ◌*◌, ◌/◌, ◌%◌}
use Rattle.fields.specs.Lists.{tabulate}
use Rattle.fields.specs.Places.{at}
use Rattle.words.specs.Bits.{bit_of, number_of, bit_at}
use Rattle.words.specs.InnerCode.{inner_parity}
use Rattle.words.specs.InnerWords.{inner_data}

-- place p of every inner word
unfoldable pub place_at : List ℕ → ℕ → ℕ
place_at bytes p = number_of 64 (λ k. bit_at bytes (64 * p + k))

-- parity place i of every inner word
unfoldable pub parity_places : List ℕ → List ℕ
parity_places bytes = tabulate 88 (λ i. number_of 64 (λ k. at (inner_parity (inner_data (bit_at bytes) k)) i))

-- byte j of a number, the highest first; the bytes of the parity places
unfoldable pub byte_of64 : ℕ → ℕ → ℕ
byte_of64 x j = number_of 8 (λ i. bit_of 64 x (8 * j + i))

unfoldable pub parity_bytes : List ℕ → List ℕ
parity_bytes cells = tabulate 704 (λ m. byte_of64 (at cells (m / 8)) (m % 8))
