use Prim.Native.Nat.{◌≤◌}
use mathlib.Core.Path.{◌≡◌}
use Rattle.words.specs.Steps.SixSymbols.{joined_from}
use Rattle.words.proofs.packed.join.Given as goal

abbrev pub invariant-loop-j : goal.invariant-loop-j
invariant-loop-j l = (l.j ≤ l.n) × (l.x ≡ joined_from l.word l.i l.j)
