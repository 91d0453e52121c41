use mathlib.Core.Path.{◌≡◌}
use Prim.Native.Nat.{◌-◌}
use Rattle.fields.specs.Elements.{times_c}
use Rattle.g709.proofs.ByteProducts.{so_far}
use Rattle.g709.proofs.columns.product.Given as goal

abbrev pub invariant-loop-i : goal.invariant-loop-i
invariant-loop-i l = times_c l.x l.y ≡ so_far l.r (8 - l._i) l.a l.b
