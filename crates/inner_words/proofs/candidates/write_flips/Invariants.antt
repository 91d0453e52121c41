use Rattle.inner_words.proofs.Passes.FlippedPlaces.{Writing}
use Rattle.inner_words.proofs.Passes.TooMany.{Raising}
use Rattle.inner_words.proofs.candidates.write_flips.Given as goal

abbrev pub invariant-loop-p : goal.invariant-loop-p
invariant-loop-p l = record { block : Writing l.flips l.p l.out; many : Raising l.flips l.p l.above }
