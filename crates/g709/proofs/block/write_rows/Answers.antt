use native.Mathlib.Omega.{arith}
use Rattle.g709.proofs.RowSteps.{rows_next, rows_end}
use Rattle.g709.proofs.block.write_rows.Goals as goal

pub loop-r-preserved : goal.loop-r-preserved
loop-r-preserved c =
    let part = rw c.unwrap-part.ensures at c.try_into.ensures.1 in
    rows_next _ _ _ _ _ _ _ _ c.loop-r.invariant c.loop-r-test.true c.requires.1 (omega arith) (omega arith) part.same c.write_row.ensures

pub returns : goal.returns
returns c = rows_end _ _ _ _ c.loop-r.invariant c.loop-r-test.false
