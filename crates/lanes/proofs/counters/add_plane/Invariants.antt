use Rattle.fields.proofs.Places.Filling.{FilledOver}
use Rattle.lanes.proofs.CarrySave.{added_at}
use Rattle.lanes.proofs.counters.add_plane.Given as goal

abbrev pub invariant-loop-k : goal.invariant-loop-k
invariant-loop-k l = FilledOver 64 (added_at l.initial.counts l.x l.weight) l.initial.counts l.k l.counts
