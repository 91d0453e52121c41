use native.Mathlib.Omega.{arith}
use Rattle.g709.proofs.RowSteps.{up_start, up_not, up_next, up_end, part_agrees}
use borrow.Author.Rules.{rules}
use Rattle.g709.proofs.block.is_written.Goals as goal

pub loop-r-init : goal.loop-r-init
loop-r-init c = up_start _

pub returns-then-not-row_agrees : goal.returns-then-not-row_agrees
returns-then-not-row_agrees c =
    let part = rw c.unwrap.ensures at c.try_into.ensures.1 in
    up_not _ _ _ _ c.requires.1 c.loop-r-test.true (part_agrees _ _ _ _ _ (omega arith) part.same c.row_agrees.ensures) c.if-not-row_agrees.true

pub loop-r-preserved : goal.loop-r-preserved
loop-r-preserved c =
    let part = rw c.unwrap.ensures at c.try_into.ensures.1 in
    up_next _ _ _ c.loop-r.invariant (part_agrees _ _ _ _ _ (omega arith) part.same c.row_agrees.ensures) c.if-not-row_agrees.false

pub returns : goal.returns
returns c = up_end _ _ _ c.requires.1 c.loop-r.invariant (search rules) c.loop-r-test.false
