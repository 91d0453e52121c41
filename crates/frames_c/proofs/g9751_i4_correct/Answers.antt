use borrow.Author.Rules.{rules}
use Rattle.frames.proofs.Answers.CorrectionAnswers.{report_left_out}
use Rattle.frames_c.proofs.g9751_i4_correct.Goals as goal

pub returns : goal.returns
returns c = search (rules, report_left_out)
