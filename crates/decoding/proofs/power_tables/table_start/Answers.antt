use borrow.Author.Rules.{rules}
use Rattle.decoding.specs.Steps.PowerTables.{reciprocals}
use Rattle.decoding.proofs.Steps.PowerTables.{start_zero, start_folded}
use Rattle.decoding.proofs.power_tables.table_start.Goals as goal

pub returns-then-c-eq0 : goal.returns-then-c-eq0
returns-then-c-eq0 c = search (rules, start_zero)

pub returns : goal.returns
unfolding reciprocals
returns c = search (rules, start_folded)
