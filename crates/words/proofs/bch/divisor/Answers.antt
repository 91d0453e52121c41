use borrow.Author.Rules.{rules}
use Rattle.words.proofs.Steps.Products.{factors_none, factors_room, factors_next, factors_end}
use Rattle.words.proofs.bch.divisor.Goals as goal

pub loop-i-init : goal.loop-i-init
loop-i-init c = search (rules, factors_none)

pub times-d-requires : goal.times-d-requires
times-d-requires c = search (rules, factors_room)

pub loop-i-preserved : goal.loop-i-preserved
loop-i-preserved c = search (rules, factors_next)

pub returns : goal.returns
returns c = search (rules, factors_end)
