use borrow.Author.Rules.{rules}
use Rattle.words.proofs.Steps.Corrections.{errors_start, errors_next, errors_end}
use Rattle.words.proofs.corrector.correct.Goals as goal

pub loop-k-init : goal.loop-k-init
loop-k-init c = search (rules, errors_start)

pub loop-k-preserved : goal.loop-k-preserved
loop-k-preserved c = search (rules, errors_next)

pub returns : goal.returns
returns c = search (rules, errors_end)
