use Rattle.g709.proofs.RowSteps.{checked_long, checked_written, checked_other}
use Rattle.g709.proofs.block.check.Goals as goal

pub returns-then-block-n : goal.returns-then-block-n
returns-then-block-n c = checked_long _ _ _ c.if-block-n.true

pub returns-then-is_written : goal.returns-then-is_written
returns-then-is_written c = checked_written _ _ _ _ c.if-block-n.false c.is_written.ensures c.if-is_written.true

pub returns-else-is_written : goal.returns-else-is_written
returns-else-is_written c = checked_other _ _ _ _ c.if-block-n.false c.is_written.ensures c.if-is_written.false
