use mathlib.Core.Path.{◌≡◌}
use Prim.Native.Nat.{◌≤◌}
use Rattle.decoding.specs.Steps.PowerTables.{sum_from, kept_to}
use Rattle.decoding.proofs.power_tables.kept_of.Given as goal

abbrev pub invariant-loop-l : goal.invariant-loop-l
invariant-loop-l l = (l.l ≤ 40) × (l.kept.count ≤ 8) × (l.kept ≡ kept_to (sum_from l.tables l.p) l.x l.i l.initial.kept l.l)
