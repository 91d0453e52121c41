use borrow.Author.Rules.{rules}
use Rattle.decoding.proofs.Steps.Flips.{plus_is}
use Rattle.decoding.proofs.exponents.plus.Goals as goal

pub returns : goal.returns
returns c = search (rules, plus_is)
