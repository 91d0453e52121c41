use mathlib.Core.Path.{◌≡◌}
use Rattle.fields.proofs.Places.Filling.{FilledOver}
use Rattle.decoding.proofs.Steps.RootsFound.{value_of_first}
use Rattle.decoding.proofs.root_search.divide.Given as goal

abbrev pub invariant-loop-k : goal.invariant-loop-k
invariant-loop-k l =
    FilledOver 9 (value_of_first l.field.exp.now l.field.log.now l.initial.polynomial l.r) l.initial.polynomial l.k l.polynomial
    × (l.v ≡ value_of_first l.field.exp.now l.field.log.now l.initial.polynomial l.r l.k)
