use Rattle.fields.specs.Elements.{xor}
use Rattle.fields.specs.Places.{at}
use Rattle.fields.proofs.Places.Filling.{FilledOver}
use Rattle.lanes.proofs.Lanes.plus.Given as goal

abbrev pub invariant-loop-i : goal.invariant-loop-i
invariant-loop-i l = FilledOver 11 (λ i. xor (at l.fn.self.0 i) (at l.y.0 i)) l.fn.self.0 l.i l.x-items
