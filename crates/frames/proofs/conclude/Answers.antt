use borrow.Author.Rules.{rules}
use Rattle.frames.proofs.Answers.CorrectionAnswers.{frame_reported}
use Rattle.frames.proofs.conclude.Goals as goal

pub returns : goal.returns
returns c = search (rules, frame_reported)
