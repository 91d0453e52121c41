use mathlib.Core.Path.{◌≡◌}
use Rattle.decoding.specs.Steps.RootSearch.{exponents_of, steps_of}
use Rattle.decoding.proofs.Steps.Search.{Passed}
use Rattle.decoding.proofs.root_search.next_root.Given as goal

abbrev pub invariant-loop-j : goal.invariant-loop-j
invariant-loop-j l =
    Passed l.field.exp.now l.field.log.now l.n l.i (exponents_of l.initial.terms) (steps_of l.initial.terms) l.count l.j (exponents_of l.terms)
    × (steps_of l.terms ≡ steps_of l.initial.terms)
