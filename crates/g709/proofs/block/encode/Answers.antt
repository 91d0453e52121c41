use Rattle.g709.proofs.RowSteps.{numbered, encoded_long, encoded_space, encoded_all}
use Rattle.g709.proofs.block.encode.Goals as goal

pub returns-then-payload-n : goal.returns-then-payload-n
returns-then-payload-n c = encoded_long _ _ _ _ (numbered c.args.wrong_length) c.if-payload-n.true

pub returns-then-out-n : goal.returns-then-out-n
returns-then-out-n c = encoded_space _ _ _ _ c.if-payload-n.false c.if-out-n.true

pub returns : goal.returns
returns c = encoded_all _ _ _ _ _ c.if-payload-n.false c.if-out-n.false c.write_rows.ensures
