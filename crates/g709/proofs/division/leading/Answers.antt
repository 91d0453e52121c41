use Rattle.fields.specs.Elements.{xor}
use Rattle.fields.proofs.Places.Filling.{filled_next}
use Rattle.g709.proofs.Lanes.{leading_end}
use borrow.Author.Rules.{rules}
use Rattle.g709.proofs.division.leading.Goals as goal

pub loop-k-preserved : goal.loop-k-preserved
unfolding xor
loop-k-preserved c = search (rules, filled_next)

pub returns : goal.returns
returns c = search (rules, leading_end)
