use borrow.Author.Rules.{rules}
use Rattle.words.proofs.Steps.Inner.{coefficient_made}
use Rattle.words.proofs.bch.coefficient.Goals as goal

pub returns : goal.returns
returns c = search (rules, coefficient_made)
