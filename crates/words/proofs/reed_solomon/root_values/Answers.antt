use borrow.Author.Rules.{rules}
use Rattle.words.proofs.Steps.Loops.{root_next, roots_end}
use Rattle.words.proofs.reed_solomon.root_values.Goals as goal

pub loop-j-preserved : goal.loop-j-preserved
loop-j-preserved c = search (rules, root_next)

pub returns : goal.returns
returns c = search (rules, roots_end)
