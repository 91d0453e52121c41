use borrow.Author.Rules.{rules}
use Rattle.fields.proofs.Places.Filling.{filled_start, filled_next, filled_list}
use Rattle.g709.proofs.block.copy.Goals as goal

pub loop-i-init : goal.loop-i-init
loop-i-init c = search (rules, filled_start)

pub loop-i-preserved : goal.loop-i-preserved
loop-i-preserved c = search (rules, filled_next)

pub returns : goal.returns
returns c = search (rules, filled_list)
