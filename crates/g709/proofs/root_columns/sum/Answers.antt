use Rattle.fields.specs.Elements.{xor}
use Rattle.g709.proofs.Folds.{sum_of_none, sum_one_more}
use Rattle.g709.proofs.PowerColumns.{sum_of_columns}
use borrow.Author.Rules.{rules}
use Rattle.g709.proofs.root_columns.sum.Goals as goal

pub loop-d-init : goal.loop-d-init
loop-d-init c = search (rules, sum_of_none)

pub loop-d-preserved : goal.loop-d-preserved
unfolding xor
loop-d-preserved c = search (rules, sum_one_more)

pub returns : goal.returns
returns c = search (rules, sum_of_columns)
