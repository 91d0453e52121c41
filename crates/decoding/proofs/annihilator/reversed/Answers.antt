use borrow.Author.Rules.{rules}
use Rattle.fields.proofs.Places.Filling.{filled_end}
use Rattle.decoding.proofs.annihilator.reversed.Goals as goal

pub returns : goal.returns
returns c = search (rules, filled_end)
