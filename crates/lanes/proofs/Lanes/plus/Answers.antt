use Rattle.std.proofs.Common.{ℕ, ap, arith, le_refl, bit_xor}
use Rattle.fields.specs.Elements.{xor}
use Rattle.fields.specs.Places.{at}
use Rattle.fields.proofs.Places.Filling.{over_next, filled_end}
use Rattle.lanes.proofs.Lanewise.{plus_is}
use Rattle.lanes.proofs.Lanes.plus.Goals as goal

pub loop-i-preserved : goal.loop-i-preserved
unfolding xor
loop-i-preserved c =
    let i = c.loop-i.i in
    over_next c.loop-i.invariant c.loop-i-test.true (ap (λ (n : ℕ). bit_xor n (at c.args.y.0 i)) (c.loop-i.invariant.ahead i (le_refl i)))

pub returns : goal.returns
returns c = λ k. plus_is k c.args.self c.args.y (omega arith) (omega arith) (filled_end c.loop-i.invariant.filled (omega arith))
