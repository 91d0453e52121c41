use mathlib.Core.Path.{◌≡◌}
use Prim.Native.Nat.{◌≤◌}
use Rattle.decoding.specs.Steps.ErrorValues.{flipped_to}
use Rattle.decoding.proofs.error_values.all_flipped.Given as goal

abbrev pub invariant-loop-k : goal.invariant-loop-k
invariant-loop-k l = (l.k ≤ l.initial.e.places.count) × (l.e ≡ flipped_to l.field.exp.now l.n l.initial.e.left l.initial.e.places l.k)
