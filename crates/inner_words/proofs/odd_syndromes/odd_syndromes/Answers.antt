use borrow.Author.Rules.{rules}
use Rattle.fields.proofs.Places.Filling.{filled_end}
use Rattle.inner_words.proofs.odd_syndromes.odd_syndromes.Goals as goal

pub returns : goal.returns
returns c = search (rules, filled_end)
