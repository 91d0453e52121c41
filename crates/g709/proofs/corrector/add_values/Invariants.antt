use mathlib.Core.Path.{◌≡◌}
use Rattle.g709.specs.Steps.Restoring.{values_added}
use Rattle.g709.proofs.corrector.add_values.Given as goal

abbrev pub invariant-loop-k : goal.invariant-loop-k
invariant-loop-k l = l.out ≡ values_added l.initial.out l.from l.places.at l.e.values l.k
