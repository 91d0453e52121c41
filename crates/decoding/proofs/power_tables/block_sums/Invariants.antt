use Rattle.fields.proofs.Places.Filling.{Filled}
use Rattle.decoding.specs.Steps.PowerTables.{block_sum}
use Rattle.decoding.proofs.power_tables.block_sums.Given as goal

abbrev pub invariant-loop-l : goal.invariant-loop-l
invariant-loop-l l = Filled 40 (block_sum l.tables l.a l.b) l.l l.sums
