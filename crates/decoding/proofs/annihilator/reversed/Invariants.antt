use Rattle.fields.proofs.Places.Filling.{Filled}
use Rattle.decoding.specs.Steps.Annihilator.{reversed_at}
use Rattle.decoding.proofs.annihilator.reversed.Given as goal

abbrev pub invariant-loop-k : goal.invariant-loop-k
invariant-loop-k l = Filled 9 (reversed_at l.s.coefficients l.s.order) l.k l.v
