use borrow.Author.Rules.{rules}
use Rattle.decoding.proofs.Steps.PowerTables.{powers_long, table_count, table_end}
use Rattle.decoding.proofs.power_tables.fill_table.Goals as goal

pub start_table-requires : goal.start_table-requires
start_table-requires c = search (rules, powers_long)

pub returns : goal.returns
returns c = search (rules, table_end, table_count)
