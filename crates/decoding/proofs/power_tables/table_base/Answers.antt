use borrow.Author.Rules.{rules}
use Rattle.decoding.proofs.Steps.PowerTables.{base_zero, base_table}
use Rattle.decoding.proofs.power_tables.table_base.Goals as goal

pub returns-then-c-eq0 : goal.returns-then-c-eq0
returns-then-c-eq0 c = search (rules, base_zero)

pub returns-else-c-eq0 : goal.returns-else-c-eq0
returns-else-c-eq0 c = search (rules, base_table)
