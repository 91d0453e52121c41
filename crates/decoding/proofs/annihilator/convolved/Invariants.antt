use mathlib.Core.Path.{◌≡◌}
use Prim.Native.Nat.{◌≤◌}
use Rattle.decoding.specs.Steps.Annihilator.{convolved}
use Rattle.decoding.proofs.annihilator.convolved.Given as goal

abbrev pub invariant-loop-i : goal.invariant-loop-i
invariant-loop-i l = (l.i ≤ l.count) × (l.v ≡ convolved l.field.exp.now l.field.log.now l.c l.t l.n l.i)
