use borrow.Author.Rules.{rules}
use Rattle.decoding.proofs.Steps.PowerTables.{started_next}
use Rattle.decoding.proofs.power_tables.start_table.Goals as goal

pub loop-m-preserved : goal.loop-m-preserved
loop-m-preserved c = search (rules, started_next)
