use Rattle.words.proofs.Steps.Joining.{stored_end}
use borrow.Author.Rules.{rules}
use Rattle.words.proofs.digit_table.fill.Goals as goal

pub returns : goal.returns
returns c = search (rules, stored_end)
