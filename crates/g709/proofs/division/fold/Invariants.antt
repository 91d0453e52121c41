use mathlib.Core.Path.{◌≡◌}
use lib.ListN.{length}
use Rattle.fields.specs.Places.{at}
use Rattle.g709.specs.Steps.Folding.{QuotientTo}
use Rattle.g709.proofs.Folds.{FoldedTo}
use Rattle.g709.proofs.division.fold.Given as goal

abbrev pub invariant-loop-i : goal.invariant-loop-i
invariant-loop-i l = (length l.q ≡ 5376) × QuotientTo (at l.payload) l.i l.q

abbrev pub invariant-loop-i-2 : goal.invariant-loop-i-2
invariant-loop-i-2 l = FoldedTo (at l.payload) l.q l.i l.columns

abbrev pub invariant-loop-i-3 : goal.invariant-loop-i-3
invariant-loop-i-3 l = FoldedTo (at l.payload) l.q l.i l.columns
