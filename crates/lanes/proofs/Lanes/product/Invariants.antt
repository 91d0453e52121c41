use Prim.Native.Nat.{ℕ}
use Rattle.lanes.proofs.Lanewise.{Multiplied}
use Rattle.lanes.proofs.Lanes.product.Given as goal

abbrev pub invariant-loop-i : goal.invariant-loop-i
invariant-loop-i l = (k : ℕ) → Multiplied k l.self l.y l.i l.p
