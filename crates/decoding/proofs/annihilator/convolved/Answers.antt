use borrow.Author.Rules.{rules}
use Rattle.decoding.proofs.Steps.BerlekampMassey.{convolved_none, convolved_next}
use Rattle.decoding.proofs.annihilator.convolved.Goals as goal

pub loop-i-init : goal.loop-i-init
loop-i-init c = search (rules, convolved_none)

pub loop-i-preserved : goal.loop-i-preserved
loop-i-preserved c = search (rules, convolved_next)
