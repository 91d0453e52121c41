use Rattle.g709.proofs.RowSteps.{RowsTo}
use Rattle.g709.proofs.block.write_rows.Given as goal

abbrev pub invariant-loop-r : goal.invariant-loop-r
invariant-loop-r l = RowsTo l.n l.payload l.r l.out
