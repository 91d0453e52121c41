-- The bits of numbers and of bytes.
use Rattle.std.specs.Prelude.{List, ℕ, zero, suc, ◌+◌, ◌-◌, ◌*◌, ◌/◌, ◌%◌, ◌^◌, length}
use Rattle.fields.specs.Lists.{tabulate}
use Rattle.fields.specs.Places.{at}

-- bit j of the n low bits of x, the highest first; and the number that n bits are, the first the highest
unfoldable pub bit_of : ℕ → ℕ → ℕ → ℕ
bit_of n x j = x / 2 ^ (n - suc j) % 2

unfoldable pub number_of : ℕ → (ℕ → ℕ) → ℕ
number_of zero b = 0
number_of (suc n) b = 2 * number_of n b + b n

-- bit i of bytes: the first bit of a byte is its highest; past the end a bit is 0
unfoldable pub bit_at : List ℕ → ℕ → ℕ
bit_at bytes i = bit_of 8 (at bytes (i / 8)) (i % 8)

-- the bits of bytes, in order; and the n bytes that the bits b 0, b 1, .. make
unfoldable pub bits_of : List ℕ → List ℕ
bits_of bytes = tabulate (8 * length bytes) (bit_at bytes)

unfoldable pub bytes_of : ℕ → (ℕ → ℕ) → List ℕ
bytes_of n b = tabulate n (λ k. number_of 8 (λ j. b (8 * k + j)))
