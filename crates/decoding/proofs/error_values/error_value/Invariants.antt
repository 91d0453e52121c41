use mathlib.Core.Path.{◌≡◌}
use Prim.Native.Nat.{◌≤◌}
use Rattle.decoding.specs.Steps.ErrorValues.{filtered_by, filter_factor}
use Rattle.decoding.proofs.error_values.error_value.Given as goal

abbrev pub invariant-loop-i : goal.invariant-loop-i
invariant-loop-i l = (l.i ≤ l.k) × (l.f.sequence ≡ filtered_by l.field.exp.now l.field.log.now l.n l.places.at l.initial.f.sequence l.i) × (l.f.factor ≡ filter_factor l.field.exp.now l.field.log.now l.n l.places.at l.x l.i)
