use borrow.Author.Rules.{rules}
use Rattle.decoding.proofs.Steps.BerlekampMassey.{tested_end}
use Rattle.decoding.proofs.annihilator.annihilates.Goals as goal

pub returns : goal.returns
returns c = search (rules, tested_end)
