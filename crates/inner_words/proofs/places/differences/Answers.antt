use borrow.Author.Rules.{rules}
use Rattle.fields.proofs.Places.Filling.{filled_end}
use Rattle.inner_words.proofs.Interleaving.EightBytes.{difference_next}
use Rattle.inner_words.proofs.places.differences.Goals as goal

pub loop-q-preserved : goal.loop-q-preserved
loop-q-preserved c = search (rules, difference_next)

pub returns : goal.returns
returns c = search (rules, filled_end)
