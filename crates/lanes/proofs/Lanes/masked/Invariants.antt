use lib.Bits.{bit_and}
use Rattle.fields.specs.Places.{at}
use Rattle.fields.proofs.Places.Filling.{FilledOver}
use Rattle.lanes.proofs.Lanes.masked.Given as goal

abbrev pub invariant-loop-x : goal.invariant-loop-x
invariant-loop-x l = FilledOver 11 (λ i. bit_and (at l.fn.self.0 i) l.mask) l.fn.self.0 l.x-index l.x-items
