use borrow.Author.Rules.{rules}
use Rattle.words.proofs.Steps.Inner.{odd_none, odd_next, odd_end}
use Rattle.words.proofs.bch.odd_syndromes.Goals as goal

pub loop-i-init : goal.loop-i-init
loop-i-init c = search (rules, odd_none)

pub loop-i-preserved : goal.loop-i-preserved
loop-i-preserved c = search (rules, odd_next)

pub returns : goal.returns
returns c = search (rules, odd_end)
