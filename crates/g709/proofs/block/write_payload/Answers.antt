use native.Mathlib.Omega.{arith}
use Rattle.g709.proofs.RowSteps.{data_next, data_end}
use Rattle.g709.proofs.block.write_payload.Goals as goal

pub loop-r-preserved : goal.loop-r-preserved
loop-r-preserved c = data_next _ _ _ _ _ _ _ c.loop-r.invariant c.loop-r-test.true c.requires.1 (omega arith) (omega arith) c.copy.ensures.after

pub returns : goal.returns
returns c = data_end _ _ _ _ c.loop-r.invariant c.loop-r-test.false
