use borrow.Author.Rules.{rules}
use Rattle.inner_words.proofs.ParityPlaces.ParitySteps.{sums_next, sums_end}
use Rattle.inner_words.proofs.parity.four_sums.Goals as goal

pub loop-g-preserved : goal.loop-g-preserved
loop-g-preserved c = search (rules, sums_next)

pub returns : goal.returns
returns c = search (rules, sums_end)
