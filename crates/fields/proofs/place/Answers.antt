use borrow.Author.Rules.{rules}
use Rattle.fields.proofs.Ways.{place_made, place_lt}
use Rattle.fields.proofs.place.Goals as goal

pub returns : goal.returns
returns c = search (rules, place_made, place_lt)
