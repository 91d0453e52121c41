use mathlib.Core.Path.{◌≡◌}
use Prim.Native.Nat.{◌-◌, ◌≤◌}
use lib.ListN.{length}
use Rattle.decoding.specs.Steps.Annihilator.{plus_shifted}
use Rattle.decoding.proofs.annihilator.plus_shifted.Given as goal

abbrev pub invariant-loop-k : goal.invariant-loop-k
invariant-loop-k l = (l.k ≤ 9 - l.s) × (length l.r ≡ 9) × (l.r ≡ plus_shifted l.field.exp.now l.field.log.now l.initial.r l.f l.p l.s l.k)

abbrev pub decreases-loop-k : goal.decreases-loop-k
decreases-loop-k l = 9 - l.s - l.k
