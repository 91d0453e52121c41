use borrow.Author.Rules.{rules}
use Rattle.decoding.proofs.Steps.Errors.{weight_none, weight_next}
use Rattle.decoding.proofs.weight.Goals as goal

pub loop-k-init : goal.loop-k-init
loop-k-init c = search (rules, weight_none)

pub loop-k-preserved : goal.loop-k-preserved
loop-k-preserved c = search (rules, weight_next)
