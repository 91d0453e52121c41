use Rattle.inner_words.proofs.Passes.FlippedPlaces.{Flipping}
use Rattle.inner_words.proofs.candidates.flip_places.Given as goal

abbrev pub invariant-loop-p : goal.invariant-loop-p
invariant-loop-p l = Flipping l.flips l.mask l.initial.block l.p l.block
