use Prim.Native.Nat.{◌+◌, ◌*◌, ◌≤◌}
use Rattle.decoding.proofs.Steps.PowerTables.{TableBlocks}
use Rattle.decoding.proofs.power_tables.finish_table.Given as goal

abbrev pub invariant-loop-k : goal.invariant-loop-k
invariant-loop-k l = (l.k ≤ 48) × TableBlocks l.initial.tables l.d (167 + 40 * l.k) l.tables
