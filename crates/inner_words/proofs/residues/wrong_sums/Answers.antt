use borrow.Author.Rules.{rules}
use Rattle.lanes.proofs.Sliced.{some_none}
use Rattle.inner_words.proofs.Remainders.ResidueSteps.{sums_next}
use Rattle.inner_words.proofs.residues.wrong_sums.Goals as goal

pub loop-i-init : goal.loop-i-init
loop-i-init c = search (rules, some_none)

pub loop-i-preserved : goal.loop-i-preserved
loop-i-preserved c = search (rules, sums_next)
