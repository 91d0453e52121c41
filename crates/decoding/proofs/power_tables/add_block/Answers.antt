use borrow.Author.Rules.{rules}
use Rattle.decoding.proofs.Steps.PowerTables.{sums_stored}
use Rattle.decoding.proofs.power_tables.add_block.Goals as goal

pub returns : goal.returns
returns c = search (rules, sums_stored)
