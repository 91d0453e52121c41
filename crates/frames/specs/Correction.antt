-- Correction ("mending") of a received block: the outer pass on the result of the inner pass (`inner_pass` of words), the restored frame, and the report. Bits are
-- a function b, as in Frames.
use Rattle.std.specs.Prelude.{Bool, ◌&&◌, ◌||◌, cond, List, ℕ, ◌+◌, ◌-◌, ◌*◌, ◌%◌, eqb, ltb, length}
use Rattle.std.proofs.Math.Option.{Option, map}
use Rattle.fields.specs.Lists.{tabulate}
use Rattle.fields.specs.Places.{at, sum_to, apart_between}
use Rattle.words.specs.Bits.{bit_at}
use Rattle.words.specs.OuterCode.{is_outer}
use Rattle.words.specs.Nearest.{nearest, every_of}
use Rattle.words.specs.InnerWords.{inner_word, inner_pass}
use Rattle.frames.specs.Frames.{data_in, symbol_at, frame_of_words}

-- bit r of the outer symbols; the two padding bits, which are not sent, count as zeros
unfoldable pub received_bit : (ℕ → ℕ) → ℕ → ℕ
received_bit b r = cond (ltb r 124768) (b r) (cond (ltb r 124770) 0 (b (r - 2)))

-- outer symbol t; and outer word w, whose symbols stand among them from 781 w on
unfoldable pub received_symbol : (ℕ → ℕ) → ℕ → ℕ
received_symbol b t = symbol_at (received_bit b) (10 * t)

unfoldable pub received_word : (ℕ → ℕ) → ℕ → List ℕ
received_word b w = tabulate (data_in w + 16) (λ s. received_symbol b (781 * w + s))

-- word 15 may become only a code word whose padding bits, the two low bits of its last data symbol, are zeros
unfoldable pub is_padded : ℕ → List ℕ → Bool
is_padded w c = ltb w 15 || eqb (at c 761 % 4) 0

unfoldable pub is_permitted : ℕ → List ℕ → Bool
is_permitted w c = is_outer c && is_padded w c

-- outer pass: each of the sixteen words becomes the permitted code word within eight symbols, if there is one
unfoldable pub outer_restored : (ℕ → ℕ) → ℕ → Option (List ℕ)
outer_restored b w = nearest (is_permitted w) 1024 8 (received_word b w)

unfoldable pub outer_pass : (ℕ → ℕ) → List (Option (List ℕ))
outer_pass b = tabulate 16 (outer_restored b)

-- the frame of the sixteen words that an outer pass over the bits b restores, with parity bits made afresh; none, if some word has none
unfoldable pub outer_frame : (ℕ → ℕ) → Option (List ℕ)
outer_frame b = map frame_of_words (every_of (outer_pass b))

-- the frame that the two passes restore; none, if the block is uncorrectable ("beyond reach")
unfoldable pub restored_frame : List ℕ → Option (List ℕ)
restored_frame block = outer_frame (inner_pass (bit_at block))

-- for each inner word the number of places where two blocks differ, from one place on and before another
unfoldable pub counts_between : ℕ → ℕ → List ℕ → List ℕ → List ℕ
counts_between from to block frame = tabulate 64 (λ k. apart_between from to (inner_word (bit_at block) k) (inner_word (bit_at frame) k))

-- the report counts where received block and restored frame differ: in the 1,952 data places of each inner word, in its 88 parity places, and in all
unfoldable pub data_counts : List ℕ → List ℕ → List ℕ
data_counts block frame = counts_between 0 1952 block frame

unfoldable pub parity_counts : List ℕ → List ℕ → List ℕ
parity_counts block frame = counts_between 1952 2040 block frame

unfoldable pub total : List ℕ → ℕ
total counts = sum_to (length counts) (at counts)

unfoldable pub all_counted : List ℕ → List ℕ → ℕ
all_counted block frame = total (data_counts block frame) + total (parity_counts block frame)
