use borrow.Author.Rules.{rules}
use Rattle.fields.proofs.Places.Filling.{filled_end}
use Rattle.decoding.proofs.Steps.PowerTables.{sums_next}
use Rattle.decoding.proofs.power_tables.block_sums.Goals as goal

pub loop-l-preserved : goal.loop-l-preserved
loop-l-preserved c = search (rules, sums_next)

pub returns : goal.returns
returns c = search (rules, filled_end)
