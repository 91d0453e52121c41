use borrow.Author.Rules.{rules}
use Rattle.decoding.proofs.Steps.BerlekampMassey.{berlekamp_massey_none, berlekamp_massey_next}
use Rattle.decoding.proofs.annihilator.shortest_recurrence.Goals as goal

pub loop-n-init : goal.loop-n-init
loop-n-init c = search (rules, berlekamp_massey_none)

pub loop-n-preserved : goal.loop-n-preserved
loop-n-preserved c = search (rules, berlekamp_massey_next)
