use Prim.Native.Nat.{◌≤◌}
use Rattle.decoding.specs.Steps.Annihilator.{PlusPart}
use Rattle.decoding.proofs.annihilator.add_scaled.Given as goal

abbrev pub invariant-loop-i : goal.invariant-loop-i
invariant-loop-i l = (l.from ≤ l.i) × (l.i ≤ l.to) × PlusPart l.field.exp.now l.field.log.now l.initial.u l.c l.v l.from l.i l.u
