use Rattle.fields.specs.Elements.{powers_b}
use mathlib.Core.Path.{◌≡◌}
use Prim.Native.Nat.{◌≤◌}
use Rattle.words.proofs.Steps.Inner.{odd_up_to}
use Rattle.words.proofs.bch.odd_syndromes.Given as goal

abbrev pub invariant-loop-i : goal.invariant-loop-i
invariant-loop-i l = (l.i ≤ 88) × (l.w.at ≡ odd_up_to powers_b l.v l.i)
