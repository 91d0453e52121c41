use Rattle.fields.specs.Elements.{xor}
use Rattle.fields.specs.Places.{at}
use Rattle.g709.proofs.Overlays.{OverTo}
use Rattle.g709.proofs.division.add.Given as goal

abbrev pub invariant-loop-i : goal.invariant-loop-i
invariant-loop-i l = OverTo l.initial.r 0 256 (λ k. xor (at l.initial.r k) (at l.columns k)) l.i l.r
