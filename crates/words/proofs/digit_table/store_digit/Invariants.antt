use Prim.Native.Nat.{◌+◌, ◌*◌, ◌^◌, ◌≤◌}
use Rattle.words.specs.Steps.SixSymbols.{Stored}
use Rattle.words.proofs.digit_table.store_digit.Given as goal

abbrev pub invariant-loop-b : goal.invariant-loop-b
invariant-loop-b l = (l.b ≤ 6) × Stored (64 * l.r + 2 ^ l.b) l.table
