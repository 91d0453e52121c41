use Rattle.inner_words.proofs.Passes.TooMany.{Going}
use Rattle.inner_words.proofs.candidates.raise.Given as goal

abbrev pub invariant-loop-j : goal.invariant-loop-j
invariant-loop-j l = Going l.initial.above l.x l.j l.above
