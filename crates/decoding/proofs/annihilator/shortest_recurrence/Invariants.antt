use mathlib.Core.Path.{◌≡◌}
use Prim.Native.Nat.{◌≤◌}
use Rattle.decoding.specs.Steps.Annihilator.{berlekamp_massey}
use Rattle.decoding.proofs.annihilator.shortest_recurrence.Given as goal

abbrev pub invariant-loop-n : goal.invariant-loop-n
invariant-loop-n l = (l.n ≤ 16) × (l.s.order ≤ l.n) × (l.s.since ≤ l.n) × (l.s ≡ berlekamp_massey l.field.exp.now l.field.log.now l.t l.n)
