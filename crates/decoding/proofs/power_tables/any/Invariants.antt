use Rattle.decoding.specs.Steps.PowerTables.{sum_from}
use Rattle.decoding.proofs.Steps.PowerTables.{Unequal}
use Rattle.decoding.proofs.power_tables.any.Given as goal

abbrev pub invariant-loop-l : goal.invariant-loop-l
invariant-loop-l l = Unequal (sum_from l.tables l.p) l.x l.l l.found
