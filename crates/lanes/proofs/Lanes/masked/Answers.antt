use Rattle.std.proofs.Common.{arith}
use Rattle.fields.proofs.Places.Filling.{filled_end}
use Rattle.lanes.proofs.Lanewise.{masked_is}
use Rattle.lanes.proofs.Lanes.masked.Goals as goal

pub returns : goal.returns
returns c = λ k. masked_is k c.args.self c.args.mask (omega arith) (filled_end c.loop-x.invariant.filled (omega arith))
