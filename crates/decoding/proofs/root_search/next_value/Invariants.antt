use mathlib.Core.Path.{◌≡◌}
use Rattle.decoding.specs.Steps.RootSearch.{exponents_of, steps_of}
use Rattle.decoding.proofs.Steps.Search.{Moved}
use Rattle.decoding.proofs.root_search.next_value.Given as goal

abbrev pub invariant-loop-l : goal.invariant-loop-l
invariant-loop-l l =
    Moved l.field.exp.now (exponents_of l.initial.terms) (steps_of l.initial.terms) l.count l.l (exponents_of l.terms) l.v × (steps_of l.terms ≡ steps_of l.initial.terms)
