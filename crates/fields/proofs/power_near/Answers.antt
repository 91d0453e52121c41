use borrow.Author.Rules.{rules}
use Rattle.fields.specs.Steps.ByTables.{power_near}
use Rattle.fields.proofs.power_near.Goals as goal

pub returns : goal.returns
unfolding power_near
returns c = search rules
