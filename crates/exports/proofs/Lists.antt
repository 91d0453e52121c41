-- How the worst list comes into its buffer. Assumes nothing.
use mathlib.Core.Path.{◌≡◌}
use mathlib.Core.List.{List}
use Prim.Native.Nat.{ℕ}
use lib.ListN.{replicate}
use Rattle.fields.specs.Steps.Buffers.{copied}
use Rattle.logging.specs.WorstList.{worst_words}
use Rattle.exports.specs.Lists.{listed_words}

pub list_written : (d p list x y words list' : List ℕ) → x ≡ copied d (replicate 64 0) → y ≡ copied p (replicate 64 0) → words ≡ worst_words (x, y) →
    list' ≡ copied words list → list' ≡ listed_words d p list
unfolding listed_words
list_written d p list x y words list' e h g q = rw (← e, ← h, ← g) q
