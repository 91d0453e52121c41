use Rattle.g709.proofs.Overlays.{OverTo}
use Rattle.g709.proofs.PowerColumns.{new_byte}
use Rattle.g709.proofs.root_columns.scale.Given as goal

abbrev pub invariant-loop-j : goal.invariant-loop-j
invariant-loop-j l = OverTo l.initial.terms l.n 16 (new_byte l.initial.terms l.n l.y) l.j l.terms
