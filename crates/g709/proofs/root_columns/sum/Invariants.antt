use mathlib.Core.Path.{◌≡◌}
use Prim.Native.Nat.{◌+◌, ◌*◌}
use Rattle.fields.specs.Places.{at}
use Rattle.g709.proofs.Folds.{sum_of_first}
use Rattle.g709.proofs.root_columns.sum.Given as goal

abbrev pub invariant-loop-d : goal.invariant-loop-d
invariant-loop-d l = l.sum ≡ sum_of_first (λ d. at l.terms (l.j + 16 * d)) l.d
