use mathlib.Core.Path.{◌≡◌}
use Prim.Native.Nat.{◌+◌, ◌*◌}
use Rattle.fields.specs.Places.{at}
use Rattle.g709.specs.Steps.Folding.{exponents_below}
use Rattle.g709.proofs.Folds.{sum_of_first}
use Rattle.g709.proofs.division.taps.Given as goal

abbrev pub invariant-loop-e : goal.invariant-loop-e
invariant-loop-e l = l.sum ≡ sum_of_first (λ n. at l.q (l.i + 16 * at exponents_below n)) l.e-index
