use Rattle.words.proofs.Steps.Inner.{Inverted}
use Prim.Native.Nat.{◌≤◌}
use Rattle.words.proofs.wrong_places.invert.Given as goal

abbrev pub invariant-loop-k : goal.invariant-loop-k
invariant-loop-k l = (l.k ≤ l.e.places.count) × Inverted l.step l.first l.initial.out l.e.places.at l.e.values l.k l.out
