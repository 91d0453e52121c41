use Rattle.std.proofs.Common.{arith, ◌∙◌, ap₂}
use Rattle.fields.specs.Elements.{xor}
use Rattle.lanes.proofs.Lanewise.{multiplied_start, multiplied_next, multiplied_end}
use Rattle.lanes.proofs.Lanes.product.Goals as goal

pub loop-i-init : goal.loop-i-init
loop-i-init c = λ k. multiplied_start k _ _ (omega arith)

pub loop-i-preserved : goal.loop-i-preserved
loop-i-preserved c = λ k.
    multiplied_next k (c.loop-i.invariant k) (omega arith) (omega arith) (omega arith) (c.plus-p.ensures k ∙ ap₂ xor (c.doubled.ensures k) (c.masked.ensures k))

pub returns : goal.returns
returns c = λ k. multiplied_end k (c.loop-i.invariant k) (omega arith)
