use borrow.Author.Rules.{rules}
use Rattle.decoding.proofs.Steps.BerlekampMassey.{step_same, step_new}
use Rattle.decoding.proofs.annihilator.berlekamp_massey_step.Goals as goal

pub returns-then-d-eq0 : goal.returns-then-d-eq0
returns-then-d-eq0 c = search (rules, step_same)

pub returns : goal.returns
returns c = search (rules, step_new)
