use native.Mathlib.Omega.{arith}
use Rattle.fields.specs.Elements.{xor}
use Rattle.lanes.proofs.Lanewise.{doubled_is}
use Rattle.lanes.proofs.Lanes.doubled.Goals as goal

pub returns : goal.returns
unfolding xor
returns c = λ k. doubled_is k c.args.self (omega arith)
