use mathlib.Core.Path.{◌≡◌}
use Rattle.fields.specs.Elements.{powers_b, exponents_b}
use Rattle.words.specs.Steps.InnerDecoding.{Syndromes}
use Prim.Native.Nat.{◌≤◌}
use Rattle.words.proofs.wrong_places.syndromes.Given as goal

abbrev pub invariant-loop-i : goal.invariant-loop-i
invariant-loop-i l = (l.i ≤ 8) × (l.field.exp.now ≡ powers_b) × (l.field.log.now ≡ exponents_b) × Syndromes powers_b exponents_b l.odd.at l.i l.t
