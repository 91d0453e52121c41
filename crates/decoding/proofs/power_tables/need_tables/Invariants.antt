use mathlib.Core.Path.{◌≡◌}
use Rattle.fields.specs.Places.{at}
use Rattle.decoding.specs.Steps.PowerTables.{PowerTables}
use Rattle.decoding.proofs.power_tables.need_tables.Given as goal

abbrev pub invariant-loop-d : goal.invariant-loop-d
invariant-loop-d l = PowerTables l.field.exp.now l.tables × (l.d ≡ at l.tables 18783)
