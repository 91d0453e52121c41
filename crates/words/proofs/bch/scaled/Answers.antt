use borrow.Author.Rules.{rules}
use Rattle.words.proofs.Steps.FourPlaces.{scaled_none, scaled_one}
use Rattle.words.proofs.bch.scaled.Goals as goal

pub returns-then-b-eq0 : goal.returns-then-b-eq0
returns-then-b-eq0 c = search (rules, scaled_none)

pub returns-else-b-eq0 : goal.returns-else-b-eq0
returns-else-b-eq0 c = search (rules, scaled_one)
