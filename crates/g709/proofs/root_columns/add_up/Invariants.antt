use Rattle.g709.specs.Steps.Evaluating.{column_sum}
use Rattle.g709.proofs.Overlays.{OverTo}
use Rattle.g709.proofs.root_columns.add_up.Given as goal

abbrev pub invariant-loop-j : goal.invariant-loop-j
invariant-loop-j l = OverTo l.initial.values l.n 16 (column_sum l.terms) l.j l.values
