-- Rows and frames of G.709. A block is n rows: a frame has four, and a single row is a block of one. A row has 4,080 bytes, sixteen words of 255 bytes: byte j
-- belongs to word j mod 16, its earliest byte at the highest power. Words of a block are counted through: word 16 r + k is word k of row r.
use Rattle.std.specs.Prelude.{Bool, ◌&&◌, List, [], ◌++◌, ℕ, ◌+◌, ◌*◌, ◌/◌, ◌%◌, eqb, length, get_or}
use Rattle.std.proofs.Math.Option.{Option, map}
use Rattle.fields.specs.Lists.{tabulate}
use Rattle.fields.specs.Places.{at, all_below, apart}
use Rattle.words.specs.ReedSolomon.{is_code_word, parity_of}
use Rattle.words.specs.Nearest.{nearest, every_of}

-- n rows take 3,824 bytes of payload each, and have 4,080
unfoldable pub is_payload_of : ℕ → List ℕ → Bool
is_payload_of n p = eqb (length p) (3824 * n) && all_below 256 p

unfoldable pub is_block_of : ℕ → List ℕ → Bool
is_block_of n b = eqb (length b) (4080 * n) && all_below 256 b

-- the code of the words: Reed-Solomon over field C with the roots a^0 to a^15, and so 16 parity bytes ("check bytes") after 239 data bytes. Bit i of a byte is
-- the coefficient of z^i, as in every element
abbrev pub is_byte_word : List ℕ → Bool
is_byte_word = is_code_word 8 285 0 16

abbrev pub byte_parity : List ℕ → List ℕ
byte_parity = parity_of 8 285 0 16

-- row r begins with the payload bytes from 3,824 r on: data byte s of word 16 r + k is payload byte 3,824 r + 16 s + k
unfoldable pub byte_data : List ℕ → ℕ → List ℕ
byte_data payload w = tabulate 239 (λ s. at payload (3824 * (w / 16) + 16 * s + w % 16))

unfoldable pub byte_word : List ℕ → ℕ → List ℕ
byte_word payload w = byte_data payload w ++ byte_parity (byte_data payload w)

-- the n rows of 16 n words: byte j of row r is byte j div 16 of word 16 r + j mod 16. So bytes 0 to 3,823 of a row are data, the others parity
unfoldable pub block_of_words : ℕ → List (List ℕ) → List ℕ
block_of_words n words = tabulate (4080 * n) (λ i. at (get_or words (16 * (i / 4080) + i % 16) []) (i % 4080 / 16))

-- the block of a payload, and the payload in a block
unfoldable pub block_of : ℕ → List ℕ → List ℕ
block_of n payload = block_of_words n (tabulate (16 * n) (byte_word payload))

unfoldable pub payload_of_rows : ℕ → List ℕ → List ℕ
payload_of_rows n block = tabulate (3824 * n) (λ i. at block (4080 * (i / 3824) + i % 3824))

-- a block that differs nowhere from the block of the payload in it. No other is written for any payload (`written_only`)
unfoldable pub is_written : ℕ → List ℕ → Bool
is_written n block = eqb (apart (block_of n (payload_of_rows n block)) block) 0

-- word w of a received block; the code word within eight bytes of it; and the block of these, or none, if some word has none ("beyond reach")
unfoldable pub received_bytes : List ℕ → ℕ → List ℕ
received_bytes block w = tabulate 255 (λ s. at block (4080 * (w / 16) + 16 * s + w % 16))

unfoldable pub bytes_restored : List ℕ → ℕ → Option (List ℕ)
bytes_restored block w = nearest is_byte_word 256 8 (received_bytes block w)

unfoldable pub restored_block : ℕ → List ℕ → Option (List ℕ)
restored_block n block = map (block_of_words n) (every_of (tabulate (16 * n) (bytes_restored block)))
