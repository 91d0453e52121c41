-- The worst list, of counts that are lent and in a buffer that is lent.
use Rattle.std.specs.Prelude.{List, ℕ, replicate}
use Rattle.fields.specs.Steps.Buffers.{copied}
use Rattle.logging.specs.WorstList.{worst_words}

-- the worst list of a report with these counts, those that are not 64 being zeros; it is written if there is place for exactly as many
unfoldable pub listed_words : List ℕ → List ℕ → List ℕ → List ℕ
listed_words d p list = copied (worst_words (copied d (replicate 64 0), copied p (replicate 64 0))) list
