use mathlib.Core.Path.{◌≡◌}
use Rattle.g709.specs.Steps.Registers.{row_divided}
use Rattle.g709.proofs.division.steps.Given as goal

abbrev pub invariant-loop-s : goal.invariant-loop-s
invariant-loop-s l = l.r ≡ row_divided l.columns 0 l.s
