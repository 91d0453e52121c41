use Rattle.g709.specs.Steps.Locating.{LocatorsTo}
use Rattle.g709.proofs.locators.locators.Given as goal

abbrev pub invariant-loop-k : goal.invariant-loop-k
invariant-loop-k l = LocatorsTo l.s l.k l.terms
