use Rattle.inner_words.specs.Steps.Passes.{WordNearer}
use Rattle.inner_words.proofs.Passes.InnerPass.{Going}
use Rattle.inner_words.proofs.singles.correct_singles.Given as goal

abbrev pub invariant-loop-k : goal.invariant-loop-k
invariant-loop-k l = Going WordNearer l.initial.block l.k l.left l.block
