use mathlib.Core.Path.{◌≡◌}
use Prim.Native.Nat.{◌≤◌}
use Rattle.decoding.specs.Steps.Annihilator.{reduced}
use Rattle.decoding.proofs.annihilator.reduce.Given as goal

abbrev pub invariant-loop-j : goal.invariant-loop-j
invariant-loop-j l = (l.j ≤ 8) × (l.u ≡ reduced l.field.exp.now l.field.log.now l.initial.u l.pivots l.j)
