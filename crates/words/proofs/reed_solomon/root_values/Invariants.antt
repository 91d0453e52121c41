use Rattle.fields.proofs.Places.Filling.{Filled}
use Rattle.decoding.specs.Steps.ByTables.{root_value}
use Rattle.words.proofs.reed_solomon.root_values.Given as goal

abbrev pub invariant-loop-j : goal.invariant-loop-j
invariant-loop-j l = Filled 16 (root_value l.field.exp.now l.field.log.now l.word) l.j l.values
