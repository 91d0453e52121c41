-- What the functions give that correct a block: its inner words one by one, its outer words, and the report.
use Rattle.std.specs.Prelude.{Bool, cond, List, ℕ}
use Rattle.std.proofs.Math.Option.{Option, none, some}
use Rattle.fields.specs.Lists.{tabulate}
use Rattle.frames.specs.Steps.Symbols.{word_in}

-- ---- outer words

-- the answer x, if the test holds
unfoldable pub provided : {A : Type 0} → Bool → A → Option A
provided test x = cond test (some x) none

-- the sixteen words of outer symbols
unfoldable pub words_in : List ℕ → List (List ℕ)
words_in outer = tabulate 16 (word_in outer)
