use Rattle.decoding.proofs.Steps.BerlekampMassey.{Tested}
use Rattle.decoding.proofs.annihilator.annihilates.Given as goal

abbrev pub invariant-loop-j : goal.invariant-loop-j
invariant-loop-j l = Tested l.field.exp.now l.field.log.now l.t l.v l.j
