use native.Mathlib.Omega.{arith}
use Rattle.fields.specs.Elements.{xor}
use Rattle.lanes.proofs.Lanewise.{square_is}
use Rattle.lanes.proofs.Lanes.square.Goals as goal

pub returns : goal.returns
unfolding xor
returns c = λ k. square_is k c.args.self (omega arith)
