use borrow.Author.Rules.{rules}
use Rattle.decoding.specs.Steps.PowerTables.{near, far}
use Rattle.decoding.proofs.Steps.PowerTables.{block_next}
use Rattle.decoding.proofs.power_tables.finish_table.Goals as goal

pub loop-k-preserved : goal.loop-k-preserved
unfolding near far
loop-k-preserved c = search (rules, block_next)
