use mathlib.Core.Bool.{true}
use Prim.Native.Nat.{◌*◌}
use Rattle.g709.specs.Steps.Restoring.{Restoring}
use Rattle.g709.proofs.corrector.restore.Given as goal

abbrev pub invariant-loop-r : goal.invariant-loop-r
invariant-loop-r l = Restoring l.block (16 * l.r) l.out true l.changed
