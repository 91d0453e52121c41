use mathlib.Core.Path.{◌≡◌}
use mathlib.Core.Bool.{true}
use Rattle.g709.proofs.RowSteps.{agree_up_to}
use Rattle.g709.proofs.block.is_written.Given as goal

abbrev pub invariant-loop-r : goal.invariant-loop-r
invariant-loop-r l = agree_up_to l.block l.r ≡ true
