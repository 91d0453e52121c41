use Rattle.decoding.specs.Steps.PowerTables.{bases_of, starts_of}
use Rattle.decoding.proofs.Steps.PowerTables.{Positions}
use Rattle.decoding.proofs.power_tables.block.Given as goal

abbrev pub invariant-loop-d : goal.invariant-loop-d
invariant-loop-d l = Positions (bases_of l.terms) (starts_of l.terms) l.i l.d l.p
