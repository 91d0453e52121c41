use borrow.Author.Rules.{rules}
use Rattle.fields.proofs.Ways.{mod_less, mod_below}
use Rattle.fields.proofs.reduced.Goals as goal

pub loop-k-preserved : goal.loop-k-preserved
loop-k-preserved c = search (rules, mod_less)

pub returns : goal.returns
returns c = search (rules, mod_below)
