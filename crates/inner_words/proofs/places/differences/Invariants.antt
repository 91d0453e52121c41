use Rattle.fields.proofs.Places.Filling.{Filled}
use Rattle.inner_words.specs.Steps.InnerResidues.{difference_from}
use Rattle.inner_words.proofs.places.differences.Given as goal

abbrev pub invariant-loop-q : goal.invariant-loop-q
invariant-loop-q l = Filled 8 (difference_from l.block l.frame l.p) l.q l.out
