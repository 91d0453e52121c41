use borrow.Author.Rules.{rules}
use Rattle.words.proofs.Steps.FourPlaces.{doubled_same, doubled_less}
use Rattle.words.proofs.bch.doubled.Goals as goal

pub returns-then-t-eq0 : goal.returns-then-t-eq0
returns-then-t-eq0 c = search (rules, doubled_same)

pub returns-else-t-eq0 : goal.returns-else-t-eq0
returns-else-t-eq0 c = search (rules, doubled_less)
