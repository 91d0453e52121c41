use Rattle.fields.proofs.Places.Filling.{Filled}
use Rattle.decoding.proofs.Steps.Errors.{filtered_entry}
use Rattle.decoding.proofs.error_values.filtered.Given as goal

abbrev pub invariant-loop-j : goal.invariant-loop-j
invariant-loop-j l = Filled 16 (filtered_entry l.field.exp.now l.field.log.now l.x l.t) l.j l.s
