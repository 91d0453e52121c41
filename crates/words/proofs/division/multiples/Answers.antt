use borrow.Author.Rules.{rules}
use Rattle.words.proofs.Steps.Digits.{multiples_next, multiples_end}
use Rattle.words.proofs.division.multiples.Goals as goal

pub loop-n-preserved : goal.loop-n-preserved
loop-n-preserved c = search (rules, multiples_next)

pub returns : goal.returns
returns c = search (rules, multiples_end)
