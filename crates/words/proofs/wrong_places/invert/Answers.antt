use borrow.Author.Rules.{rules}
use Rattle.words.proofs.Steps.Inner.{inverted_none, inverted_next}
use Rattle.words.proofs.wrong_places.invert.Goals as goal

pub loop-k-init : goal.loop-k-init
loop-k-init c = search (rules, inverted_none)

pub loop-k-preserved : goal.loop-k-preserved
loop-k-preserved c = (search rules, inverted_next _ _ _ _ _ _ _ c.loop-k.invariant.1 _ c.bit_place.ensures _ (search rules) c.flip.ensures)
