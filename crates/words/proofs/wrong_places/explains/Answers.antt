use borrow.Author.Rules.{rules}
use Rattle.words.proofs.Steps.Inner.{explains_rest, explains_not}
use Rattle.words.proofs.wrong_places.explains.Goals as goal

pub returns-then-all_below : goal.returns-then-all_below
returns-then-all_below c = search (rules, explains_rest)

pub returns-else-all_below : goal.returns-else-all_below
returns-else-all_below c = search (rules, explains_not)
