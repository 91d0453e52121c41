use Rattle.g709.proofs.Locating.{Placing}
use Rattle.g709.proofs.locators.places.Given as goal

abbrev pub invariant-loop-i : goal.invariant-loop-i
invariant-loop-i l = Placing l.values l.k l.i l.p
