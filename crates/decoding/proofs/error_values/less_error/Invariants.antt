use mathlib.Core.Path.{◌≡◌}
use Rattle.fields.specs.Steps.ByTables.{table_product}
use Rattle.fields.proofs.Places.Filling.{Filled}
use Rattle.decoding.specs.Steps.Decoder.{times_power}
use Rattle.decoding.proofs.Steps.Errors.{less_entry}
use Rattle.decoding.proofs.error_values.less_error.Given as goal

abbrev pub invariant-loop-j : goal.invariant-loop-j
invariant-loop-j l = Filled 16 (less_entry l.field.exp.now l.field.log.now l.x l.v l.t) l.j l.s × (l.c ≡ times_power (table_product l.field.exp.now l.field.log.now) l.x l.v l.j)
