use borrow.Author.Rules.{rules}
use Rattle.inner_words.proofs.Passes.FlippedPlaces.{flipping_next}
use Rattle.inner_words.proofs.candidates.flip_places.Goals as goal

pub loop-p-preserved : goal.loop-p-preserved
loop-p-preserved c = search (rules, flipping_next)
