use mathlib.Core.Path.{◌≡◌}
use Prim.Native.Nat.{◌≤◌}
use Rattle.decoding.specs.Steps.Decoder.{weight_between}
use Rattle.decoding.proofs.weight.Given as goal

abbrev pub invariant-loop-k : goal.invariant-loop-k
invariant-loop-k l = (l.k ≤ l.places.count) × (l.n ≤ l.k) × (l.n ≡ weight_between l.from l.to l.places.at l.e.values l.k)
