-- What the functions on bits and on the outer symbols give.
use Rattle.std.specs.Prelude.{◌≡◌, List, [], ℕ, ◌+◌, ◌*◌, ◌/◌, ◌%◌, ◌<◌, length, get_or}
use Rattle.fields.specs.Lists.{tabulate}
use Rattle.fields.specs.Places.{at}
use Rattle.words.specs.Bits.{bit_of, number_of, bit_at}
use Rattle.frames.specs.Frames.{data_in, outer_place}

-- the byte that eight of the twenty bits of two symbols make, from bit i on
unfoldable pub byte_at : ℕ → ℕ → ℕ → ℕ
byte_at x y i = number_of 8 (λ j. bit_of 20 (1024 * x + y % 1024) (i + j))

-- the number that n of the bits b make, from bit i on; and m such numbers, one after the other
unfoldable pub number_at : ℕ → (ℕ → ℕ) → ℕ → ℕ
number_at n b i = number_of n (λ j. b (i + j))

unfoldable pub parts_of : ℕ → ℕ → (ℕ → ℕ) → ℕ → List ℕ
parts_of n m b i = tabulate m (λ s. number_at n b (i + n * s))

-- n of the numbers f 0, f 1, .., from f k on
unfoldable pub part_from : (ℕ → ℕ) → ℕ → ℕ → List ℕ
part_from f k n = tabulate n (λ m. f (k + m))

-- sixteen outer words stand in the outer symbols, 781 places each
pub record Concatenated (words : List (List ℕ)) (outer : List ℕ) : Type 0 where
  pub long : length outer ≡ 12496
  pub place : (w s : ℕ) → w < 16 → s < data_in w + 16 → at outer (781 * w + s) ≡ at (get_or words w []) s

-- outer word w of outer symbols
unfoldable pub word_in : List ℕ → ℕ → List ℕ
word_in outer w = tabulate (data_in w + 16) (λ s. at outer (781 * w + s))

-- bit i of the symbols f 0, f 1, ..; and the byte that eight bits make, from bit i on
unfoldable pub symbol_bit : (ℕ → ℕ) → ℕ → ℕ
symbol_bit f i = bit_of 10 (f (i / 10)) (i % 10)

unfoldable pub symbol_byte : (ℕ → ℕ) → ℕ → ℕ
symbol_byte f i = number_of 8 (λ j. symbol_bit f (i + j))

-- the bits of the outer symbols that are sent are the first in the buffer
pub record Sent (outer out : List ℕ) : Type 0 where
  pub long : length out ≡ 16320
  pub bits : (i : ℕ) → i < 124928 → bit_at out i ≡ symbol_bit (at outer) (outer_place i)

-- data symbol u of all outer words stands at this place of the outer symbols
unfoldable pub data_place : ℕ → ℕ
data_place u = 781 * (u / 765) + u % 765

unfoldable pub data_symbol : List ℕ → ℕ → ℕ
data_symbol outer u = at outer (data_place u)

-- the payload in outer symbols
unfoldable pub payload_byte : List ℕ → ℕ → ℕ
payload_byte outer k = symbol_byte (data_symbol outer) (8 * k)

-- four data symbols are five payload bytes: the bytes of those that end before outer word w, and that end with it
unfoldable pub start_of : ℕ → ℕ
start_of w = 5 * (765 * w / 4)

unfoldable pub end_of : ℕ → ℕ
end_of w = 5 * ((765 * w + data_in w) / 4)

unfoldable pub payload_in : List ℕ → List ℕ
payload_in outer = tabulate 15296 (payload_byte outer)
