use Rattle.fields.proofs.Places.Filling.{Filled}
use Rattle.decoding.specs.Steps.PowerTables.{bases_of, starts_of}
use Rattle.decoding.proofs.Steps.PowerTables.{term_base, term_start}
use Rattle.decoding.proofs.power_tables.tables_of.Given as goal

abbrev pub invariant-loop-d : goal.invariant-loop-d
invariant-loop-d l = Filled 8 (term_base l.polynomial) l.d (bases_of l.terms) × Filled 8 (term_start l.field.log.now l.polynomial l.n) l.d (starts_of l.terms)
