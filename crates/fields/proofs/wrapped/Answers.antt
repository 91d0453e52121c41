use borrow.Author.Rules.{rules}
use Rattle.fields.proofs.Ways.{wrapped_below, wrapped_above}
use Rattle.fields.proofs.wrapped.Goals as goal

pub returns-then-i-n : goal.returns-then-i-n
returns-then-i-n c = search (rules, wrapped_below)

pub returns-else-i-n : goal.returns-else-i-n
returns-else-i-n c = search (rules, wrapped_above)
