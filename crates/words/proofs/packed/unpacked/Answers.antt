use Rattle.words.proofs.Steps.Joining.{cells_next, cells_end}
use borrow.Author.Rules.{rules}
use Rattle.words.proofs.packed.unpacked.Goals as goal

pub loop-i-preserved : goal.loop-i-preserved
loop-i-preserved c = search (rules, cells_next)

pub returns : goal.returns
returns c = search (rules, cells_end)
