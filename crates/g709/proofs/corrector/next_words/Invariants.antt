use mathlib.Core.Bool.{true}
use Prim.Native.Nat.{◌+◌, ◌*◌}
use Rattle.g709.specs.Steps.Restoring.{Restoring}
use Rattle.g709.proofs.corrector.next_words.Given as goal

abbrev pub invariant-loop-k : goal.invariant-loop-k
invariant-loop-k l = Restoring l.block (16 * l.r + l.k) l.out true l.changed
