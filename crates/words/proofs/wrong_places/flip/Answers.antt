use borrow.Author.Rules.{rules}
use Rattle.words.proofs.Steps.Inner.{flip_none, flip_one, flip_past}
use Rattle.words.proofs.wrong_places.flip.Goals as goal

pub returns-then-value-eq0 : goal.returns-then-value-eq0
returns-then-value-eq0 c = search (rules, flip_none)

pub returns-then-i-out : goal.returns-then-i-out
returns-then-i-out c = search (rules, flip_one)

pub returns-else-i-out : goal.returns-else-i-out
returns-else-i-out c = search (rules, flip_past)
