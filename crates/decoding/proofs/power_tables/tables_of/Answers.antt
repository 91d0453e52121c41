use borrow.Author.Rules.{rules}
use Rattle.decoding.proofs.Steps.PowerTables.{bases_next, starts_next, bases_end, starts_end}
use Rattle.decoding.proofs.power_tables.tables_of.Goals as goal

pub loop-d-preserved : goal.loop-d-preserved
loop-d-preserved c = search (rules, bases_next, starts_next)

pub returns : goal.returns
returns c = search (rules, bases_end, starts_end)
