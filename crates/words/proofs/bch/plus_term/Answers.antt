use borrow.Author.Rules.{rules}
use Rattle.words.proofs.Steps.Inner.{term_next, term_end}
use Rattle.words.proofs.bch.plus_term.Goals as goal

pub loop-j-preserved : goal.loop-j-preserved
loop-j-preserved c = search (rules, term_next)

pub returns : goal.returns
returns c = search (rules, term_end)
