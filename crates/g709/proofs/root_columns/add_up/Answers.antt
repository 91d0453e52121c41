use Rattle.g709.proofs.PowerColumns.{values_end}
use borrow.Author.Rules.{rules}
use Rattle.g709.proofs.root_columns.add_up.Goals as goal

pub returns : goal.returns
returns c = search (rules, values_end)
