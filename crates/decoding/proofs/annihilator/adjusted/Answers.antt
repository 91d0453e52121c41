use borrow.Author.Rules.{rules}
use Rattle.decoding.proofs.Steps.BerlekampMassey.{adjusted_same, adjusted_new}
use Rattle.decoding.proofs.annihilator.adjusted.Goals as goal

pub returns-then-n-s : goal.returns-then-n-s
returns-then-n-s c = search (rules, adjusted_same)

pub returns : goal.returns
returns c = search (rules, adjusted_new)
