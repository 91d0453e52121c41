use Rattle.g709.proofs.Lanes.{zeros_table, divide_start, divide_next}
use borrow.Author.Rules.{rules}
use Rattle.g709.proofs.division.steps.Goals as goal

pub loop-s-init : goal.loop-s-init
loop-s-init c = divide_start _ _ _ (zeros_table 272)

pub loop-s-preserved : goal.loop-s-preserved
loop-s-preserved c = search (rules, divide_next)
