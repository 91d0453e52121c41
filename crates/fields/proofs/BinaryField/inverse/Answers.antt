use borrow.Author.Rules.{rules}
use Rattle.fields.proofs.Ways.{inverse_none, inverse_of_zero, inverse_some}
use Rattle.fields.proofs.ByTables.{inverse_by_tables}
use Rattle.fields.proofs.BinaryField.inverse.Goals as goal

pub returns-then-n-eq0 : goal.returns-then-n-eq0
returns-then-n-eq0 c = search (rules, inverse_none, inverse_by_tables)

pub returns-then-a-eq0 : goal.returns-then-a-eq0
returns-then-a-eq0 c = search (rules, inverse_of_zero, inverse_by_tables)

pub returns : goal.returns
returns c = search (rules, inverse_some, inverse_by_tables)
