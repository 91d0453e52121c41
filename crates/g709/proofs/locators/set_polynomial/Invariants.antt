use Rattle.g709.proofs.Locating.{StoredTo}
use Rattle.g709.proofs.locators.set_polynomial.Given as goal

abbrev pub invariant-loop-d : goal.invariant-loop-d
invariant-loop-d l = StoredTo l.initial.terms l.k l.polynomial l.d l.terms
