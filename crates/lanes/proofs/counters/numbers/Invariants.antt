use Rattle.lanes.proofs.CarrySave.{Weighing}
use Rattle.lanes.proofs.counters.numbers.Given as goal

abbrev pub invariant-loop-i : goal.invariant-loop-i
invariant-loop-i l = Weighing l.planes l.i l.counts
