use Prim.Native.Nat.{◌+◌, ◌*◌}
use Rattle.fields.specs.Places.{at}
use Rattle.fields.proofs.Places.Filling.{Filled}
use Rattle.g709.proofs.columns.lane.Given as goal

abbrev pub invariant-loop-i : goal.invariant-loop-i
invariant-loop-i l = Filled 16 (λ j. at l.columns (16 * j + l.k)) l.i l.cells
