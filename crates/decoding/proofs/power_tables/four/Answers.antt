use borrow.Author.Rules.{rules}
use Rattle.decoding.proofs.Steps.PowerTables.{four_is}
use Rattle.decoding.proofs.power_tables.four.Goals as goal

pub returns : goal.returns
returns c = search (rules, four_is)
