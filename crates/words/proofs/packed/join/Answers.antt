use Rattle.words.proofs.Steps.Joining.{joined_none, joined_next, joined_end, joined_small}
use borrow.Author.Rules.{rules}
use Rattle.words.proofs.packed.join.Goals as goal

pub loop-j-init : goal.loop-j-init
loop-j-init c = search (rules, joined_none)

pub loop-j-preserved : goal.loop-j-preserved
loop-j-preserved c = search (rules, joined_next)

pub returns : goal.returns
returns c = search (rules, joined_end, joined_small)
