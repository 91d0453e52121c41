use borrow.Author.Rules.{rules}
use Rattle.words.proofs.Steps.FourPlaces.{remainder_none, remainder_next}
use Rattle.words.proofs.bch.remainder.Goals as goal

pub loop-i-init : goal.loop-i-init
loop-i-init c = search (rules, remainder_none)

pub loop-i-preserved : goal.loop-i-preserved
loop-i-preserved c = search (rules, remainder_next)
