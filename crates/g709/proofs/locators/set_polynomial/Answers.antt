use Rattle.g709.proofs.Locating.{stored_end}
use borrow.Author.Rules.{rules}
use Rattle.g709.proofs.locators.set_polynomial.Goals as goal

pub returns : goal.returns
returns c = search (rules, stored_end)
