use borrow.Author.Rules.{rules}
use Rattle.words.proofs.Steps.Loops.{value_none, value_next, value_end}
use Rattle.words.proofs.reed_solomon.value.Goals as goal

pub loop-symbol-init : goal.loop-symbol-init
loop-symbol-init c = search (rules, value_none)

pub loop-symbol-preserved : goal.loop-symbol-preserved
loop-symbol-preserved c = search (rules, value_next)

pub returns : goal.returns
returns c = search (rules, value_end)
