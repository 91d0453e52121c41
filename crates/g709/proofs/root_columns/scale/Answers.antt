use Rattle.g709.proofs.PowerColumns.{column_end}
use borrow.Author.Rules.{rules}
use Rattle.g709.proofs.root_columns.scale.Goals as goal

pub returns : goal.returns
returns c = search (rules, column_end)
