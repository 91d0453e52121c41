use Rattle.g709.proofs.Overlays.{OverTo}
use Rattle.g709.proofs.Lanes.{new_cell}
use Rattle.g709.proofs.division.store.Given as goal

abbrev pub invariant-loop-j : goal.invariant-loop-j
invariant-loop-j l = OverTo l.initial.r l.n 16 (new_cell l.initial.r l.f l.n l.y) l.j l.r
