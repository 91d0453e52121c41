use Rattle.g709.proofs.RowSteps.{DataTo}
use Rattle.g709.proofs.block.write_payload.Given as goal

abbrev pub invariant-loop-r : goal.invariant-loop-r
invariant-loop-r l = DataTo l.n l.block l.r l.out
