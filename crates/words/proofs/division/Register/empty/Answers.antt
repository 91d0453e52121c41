use borrow.Author.Rules.{rules}
use Rattle.fields.specs.Lists.{tabulate}
use Rattle.words.proofs.division.Register.empty.Goals as goal

pub returns : goal.returns
unfolding tabulate
returns c = search rules
