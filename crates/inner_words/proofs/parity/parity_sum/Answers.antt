use borrow.Author.Rules.{rules}
use Rattle.inner_words.proofs.ParityPlaces.ParitySteps.{place_none, place_next, place_end}
use Rattle.inner_words.proofs.parity.parity_sum.Goals as goal

pub loop-m-init : goal.loop-m-init
loop-m-init c = search (rules, place_none)

pub loop-m-preserved : goal.loop-m-preserved
loop-m-preserved c = search (rules, place_next)

pub returns : goal.returns
returns c = search (rules, place_end)
