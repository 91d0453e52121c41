-- What a received block holds: its outer symbols, and whether they are code words. b is the block's bits.
use Rattle.std.specs.Prelude.{Bool, List, ℕ}
use Rattle.fields.specs.Lists.{tabulate}
use Rattle.fields.specs.Elements.{times_a}
use Rattle.fields.specs.Places.{at, every}
use Rattle.words.specs.ReedSolomon.{divided}
use Rattle.words.specs.OuterCode.{generator, is_outer}
use Rattle.frames.specs.Correction.{received_symbol, received_word}

-- the outer symbols
unfoldable pub received_symbols : (ℕ → ℕ) → List ℕ
received_symbols b = tabulate 12496 (received_symbol b)

-- the division register after the first n symbols of outer word w
unfoldable pub divided_to : (ℕ → ℕ) → ℕ → ℕ → List ℕ
divided_to b w n = divided times_a 16 (at generator) (at (received_word b w)) n

-- each outer word is a code word
unfoldable pub outer_codes : (ℕ → ℕ) → Bool
outer_codes b = every 16 (λ w. is_outer (received_word b w))
