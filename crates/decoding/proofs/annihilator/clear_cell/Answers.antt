use borrow.Author.Rules.{rules}
use Rattle.decoding.proofs.Steps.Elimination.{cleared_is, cleared_same}
use Rattle.decoding.proofs.annihilator.clear_cell.Goals as goal

pub returns-else-c-ne0 : goal.returns-else-c-ne0
returns-else-c-ne0 c = search (rules, cleared_same)

pub returns-then-c-ne0 : goal.returns-then-c-ne0
returns-then-c-ne0 c = search (rules, cleared_is)
