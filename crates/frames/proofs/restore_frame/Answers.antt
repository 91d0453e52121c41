use Rattle.frames.proofs.Answers.CorrectionAnswers.{none_left, passes_done}
use Rattle.frames.proofs.restore_frame.Goals as goal

pub outer_pass-requires : goal.outer_pass-requires
outer_pass-requires c = λ t. none_left _ _ _ c.correct-left.ensures t

pub returns : goal.returns
returns c = passes_done _ _ _ _ _ c.correct-left.ensures c.outer_pass.ensures
