use Prim.Native.Nat.{◌+◌, ◌*◌, ◌^◌, ◌≤◌}
use mathlib.Core.Path.{◌≡◌}
use Rattle.words.specs.Steps.SixSymbols.{Stored}
use Rattle.words.proofs.digit_table.store_bit.Given as goal

abbrev pub invariant-loop-v : goal.invariant-loop-v
invariant-loop-v l = (l.n ≡ 2 ^ l.b) × (l.n ≤ 32) × (l.from ≡ 64 * l.r) × (l.v ≤ l.n) × Stored (64 * l.r + l.n + l.v) l.table
