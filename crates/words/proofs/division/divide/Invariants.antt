use mathlib.Core.Path.{◌≡◌}
use Rattle.words.proofs.Steps.Loops.{divided_up_to}
use Rattle.words.proofs.division.divide.Given as goal

abbrev pub invariant-loop-symbol : goal.invariant-loop-symbol
invariant-loop-symbol l = l.register.cells ≡ divided_up_to l.«data» l.symbol-index
