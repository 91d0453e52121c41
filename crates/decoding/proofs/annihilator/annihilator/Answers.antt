use borrow.Author.Rules.{rules}
use Rattle.decoding.proofs.Steps.BerlekampMassey.{reversed_elements}
use Rattle.decoding.proofs.annihilator.annihilator.Goals as goal

pub annihilates-requires : goal.annihilates-requires
annihilates-requires c = search (rules, reversed_elements)
