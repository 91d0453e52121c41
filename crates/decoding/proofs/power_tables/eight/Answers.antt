use borrow.Author.Rules.{rules}
use Rattle.decoding.proofs.Steps.PowerTables.{eight_is}
use Rattle.decoding.proofs.power_tables.eight.Goals as goal

pub returns : goal.returns
returns c = search (rules, eight_is)
