use mathlib.Core.Path.{◌≡◌}
use lib.ListN.{length}
use Rattle.g709.proofs.PowerColumns.{EvaluatedTo}
use Rattle.g709.proofs.root_columns.evaluate.Given as goal

abbrev pub invariant-loop-e : goal.invariant-loop-e
invariant-loop-e l = (length l.terms ≡ 144) × (length l.values ≡ 4080) × EvaluatedTo l.initial.terms l.e l.terms l.values
