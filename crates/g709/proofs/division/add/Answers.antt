use Rattle.fields.specs.Elements.{xor}
use Rattle.g709.proofs.Overlays.{over_end}
use Rattle.g709.proofs.Folds.{add_next}
use borrow.Author.Rules.{rules}
use Rattle.g709.proofs.division.add.Goals as goal

pub loop-i-preserved : goal.loop-i-preserved
unfolding xor
loop-i-preserved c = search (rules, add_next)

pub returns : goal.returns
returns c = search (rules, over_end)
