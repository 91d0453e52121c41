-- Frames: the outer words of a payload, the bits that are sent of them, with the parity bits of the inner words (`InnerWords` of words), and the payload of a frame.
-- Frame bits are given by a function b: bit i is b i. Bytes are lists, and `bit_at` reads their bits, the first bit of a byte its highest.
use Rattle.std.specs.Prelude.{Bool, ◌&&◌, cond, List, [], ◌++◌, ℕ, ◌+◌, ◌*◌, ◌/◌, ◌%◌, eqb, ltb, length, get_or}
use Rattle.fields.specs.Lists.{tabulate}
use Rattle.fields.specs.Places.{at, all_below, sum_to, differs}
use Rattle.words.specs.Bits.{bit_of, number_of, bit_at, bytes_of}
use Rattle.words.specs.OuterCode.{outer_parity}
use Rattle.words.specs.InnerWords.{with_parity}

-- a payload is 15,296 bytes, a block 16,320
unfoldable pub is_payload : List ℕ → Bool
is_payload p = eqb (length p) 15296 && all_below 256 p

unfoldable pub is_block : List ℕ → Bool
is_block b = eqb (length b) 16320 && all_below 256 b

-- outer words 0 to 14 have 765 data symbols, word 15 has 762
unfoldable pub data_in : ℕ → ℕ
data_in w = cond (ltb w 15) 765 762

-- ten bits in order make a symbol, the first at z^9: that of the bits b from bit i on
unfoldable pub symbol_at : (ℕ → ℕ) → ℕ → ℕ
symbol_at b i = number_of 10 (λ j. b (i + j))

-- data symbol s of outer word w begins at payload bit 7,650 w + 10 s. Past the payload's end a bit is 0, which gives the two padding bits ("fill zeros") of
-- word 15
unfoldable pub outer_data : List ℕ → ℕ → List ℕ
outer_data payload w = tabulate (data_in w) (λ s. symbol_at (bit_at payload) (7650 * w + 10 * s))

unfoldable pub outer_word : List ℕ → ℕ → List ℕ
outer_word payload w = outer_data payload w ++ outer_parity (outer_data payload w)

unfoldable pub outer_words : List ℕ → List (List ℕ)
outer_words payload = tabulate 16 (outer_word payload)

-- the outer symbols are those of sixteen words one after the other, 781 each, ten bits a symbol: bit r of them
unfoldable pub outer_bit : List (List ℕ) → ℕ → ℕ
outer_bit words r = bit_of 10 (at (get_or words (r / 7810) []) (r % 7810 / 10)) (r % 10)

-- the padding bits, 124,768 and 124,769 of the outer symbols, are not sent: frame bit i below 124,928 is bit `outer_place i` of them
unfoldable pub outer_place : ℕ → ℕ
outer_place i = cond (ltb i 124768) i (i + 2)

unfoldable pub sent_bit : List (List ℕ) → ℕ → ℕ
sent_bit words i = outer_bit words (outer_place i)

-- the frame of sixteen outer words, and of a payload
unfoldable pub frame_of_words : List (List ℕ) → List ℕ
frame_of_words words = bytes_of 16320 (with_parity (sent_bit words))

unfoldable pub frame_of : List ℕ → List ℕ
frame_of payload = frame_of_words (outer_words payload)

-- payload bit i stands at frame bit `payload_place i`; the payload of a frame
unfoldable pub payload_place : ℕ → ℕ
payload_place i = 7810 * (i / 7650) + i % 7650

unfoldable pub payload_of : List ℕ → List ℕ
payload_of frame = bytes_of 15296 (λ i. bit_at frame (payload_place i))

-- in how many of the 130,560 bits two blocks differ
unfoldable pub wrong_bits : List ℕ → List ℕ → ℕ
wrong_bits block frame = sum_to 130560 (λ i. differs (bit_at block i) (bit_at frame i))
