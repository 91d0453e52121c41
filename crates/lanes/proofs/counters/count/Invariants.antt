use Rattle.std.proofs.Common.{◌≡◌, length}
use Rattle.fields.specs.Places.{at}
use Rattle.lanes.specs.Steps.Counters.{Carried}
use Rattle.lanes.proofs.counters.count.Given as goal

abbrev pub invariant-loop-i : goal.invariant-loop-i
invariant-loop-i g l = (length l.carries ≡ g.row.CARRIES) × Carried (at l.xs) l.i l.s l.carries
