use Prim.Native.Nat.{◌+◌}
use Rattle.fields.specs.Elements.{xor}
use Rattle.fields.specs.Places.{at}
use Rattle.fields.proofs.Places.Filling.{Filled}
use Rattle.g709.proofs.division.leading.Given as goal

abbrev pub invariant-loop-k : goal.invariant-loop-k
invariant-loop-k l = Filled 16 (λ j. xor (at l.r j) (at l.columns (l.from + j))) l.k l.f
