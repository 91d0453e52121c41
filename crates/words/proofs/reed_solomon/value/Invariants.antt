use mathlib.Core.Path.{◌≡◌}
use Rattle.words.proofs.Steps.Loops.{value_up_to}
use Rattle.words.proofs.reed_solomon.value.Given as goal

abbrev pub invariant-loop-symbol : goal.invariant-loop-symbol
invariant-loop-symbol l = l.v ≡ value_up_to l.field.exp.now l.field.log.now l.word l.x l.symbol-index
