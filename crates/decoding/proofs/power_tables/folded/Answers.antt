use borrow.Author.Rules.{rules}
use Rattle.decoding.proofs.Steps.PowerTables.{folded_is}
use Rattle.decoding.proofs.power_tables.folded.Goals as goal

pub returns : goal.returns
returns c = search (rules, folded_is)
