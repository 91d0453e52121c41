use Prim.Native.Nat.{◌*◌, ◌≤◌}
use Rattle.words.specs.Steps.SixSymbols.{Stored}
use Rattle.words.proofs.digit_table.fill.Given as goal

abbrev pub invariant-loop-r : goal.invariant-loop-r
invariant-loop-r l = (l.r ≤ 30) × Stored (64 * l.r) l.table
