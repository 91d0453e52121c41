use borrow.Author.Rules.{rules}
use Rattle.fields.proofs.Ways.{power_none, power_read}
use Rattle.fields.proofs.ByTables.{power_by_tables}
use Rattle.fields.proofs.BinaryField.power.Goals as goal

pub returns-then-n-eq0 : goal.returns-then-n-eq0
returns-then-n-eq0 c = search (rules, power_none, power_by_tables)

pub returns : goal.returns
returns c = search (rules, power_read, power_by_tables)
