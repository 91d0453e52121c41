use Rattle.g709.proofs.RowSteps.{numbered, extracted_long, extracted_space, extracted_all, extracted_other}
use Rattle.g709.proofs.block.extract.Goals as goal

pub returns-then-block-n : goal.returns-then-block-n
returns-then-block-n c = extracted_long _ _ _ _ (numbered c.args.wrong_length) c.if-block-n.true

pub returns-then-out-n : goal.returns-then-out-n
returns-then-out-n c = extracted_space _ _ _ _ c.if-block-n.false c.if-out-n.true

pub returns-then-not-is_written : goal.returns-then-not-is_written
returns-then-not-is_written c = extracted_other _ _ _ _ _ c.if-block-n.false c.if-out-n.false c.is_written.ensures c.if-not-is_written.true

pub returns : goal.returns
returns c = extracted_all _ _ _ _ _ _ c.if-block-n.false c.if-out-n.false c.is_written.ensures c.if-not-is_written.false c.write_payload.ensures
