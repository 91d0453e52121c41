use mathlib.Core.Path.{◌≡◌}
use Prim.Native.Nat.{◌≤◌}
use Rattle.words.proofs.Steps.Corrections.{errors_added}
use Rattle.words.proofs.corrector.correct.Given as goal

abbrev pub invariant-loop-k : goal.invariant-loop-k
invariant-loop-k l = (l.k ≤ l.places.count) × (l.out ≡ errors_added l.word l.places.at l.e.values l.k)
