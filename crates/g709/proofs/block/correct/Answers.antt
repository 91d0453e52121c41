use mathlib.Core.Path.{◌∙◌}
use Rattle.g709.proofs.RowSteps.{numbered}
use Rattle.g709.proofs.WordByWord.{restoring_start, refused_long, refused_space, answer_restored, answer_lost}
use Rattle.g709.proofs.block.correct.Goals as goal

pub returns-then-block-n : goal.returns-then-block-n
returns-then-block-n c = refused_long _ _ _ _ (numbered c.args.wrong_length) c.if-block-n.true

pub returns-then-out-n : goal.returns-then-out-n
returns-then-out-n c = refused_space _ _ _ _ c.if-block-n.false c.if-out-n.true

pub restore-requires-clause-restoring : goal.restore-requires-clause-restoring
restore-requires-clause-restoring c = restoring_start _ _ c.copy_from_slice.ensures.after

pub returns-in_default : goal.returns-in_default
returns-in_default c = answer_lost _ _ _ _ _ _ c.if-block-n.false c.if-out-n.false c.restore.ensures c.in_default.is

pub returns : goal.returns
returns c = answer_restored _ _ _ _ _ _ c.if-block-n.false c.if-out-n.false c.restore.ensures _ _ c.in-Some.is (c.copy_from_slice-2.ensures.len ∙ c.if-out-n.false) c.copy_from_slice-2.ensures.after
