use borrow.Author.Rules.{rules}
use Rattle.decoding.proofs.Steps.Errors.{locator_by}
use Rattle.decoding.proofs.locator.Goals as goal

pub returns : goal.returns
returns c = search (rules, locator_by)
