use mathlib.Core.Path.{◌≡◌}
use lib.ListN.{length}
use Rattle.lanes.specs.Steps.Counters.{Carried}
use Rattle.inner_words.specs.Steps.InnerResidues.{difference_from}
use Rattle.frames.proofs.comparison.counts.Given as goal

abbrev pub invariant-loop-i : goal.invariant-loop-i
invariant-loop-i l = (length l.carries ≡ 256) × (length l.differences ≡ 8) × Carried (difference_from l.block l.frame l.from) l.i l.planes l.carries
