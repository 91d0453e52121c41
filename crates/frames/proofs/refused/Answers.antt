use borrow.Author.Rules.{rules}
use Rattle.frames.proofs.Answers.CorrectionAnswers.{none_counted}
use Rattle.frames.proofs.refused.Goals as goal

pub returns : goal.returns
returns c = search (rules, none_counted)
