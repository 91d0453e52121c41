use borrow.Author.Rules.{rules}
use Rattle.decoding.proofs.Steps.BerlekampMassey.{shifted_none, shifted_next}
use Rattle.decoding.proofs.annihilator.plus_shifted.Goals as goal

pub loop-k-init : goal.loop-k-init
loop-k-init c = search (rules, shifted_none)

pub loop-k-preserved : goal.loop-k-preserved
loop-k-preserved c = search (rules, shifted_next)
