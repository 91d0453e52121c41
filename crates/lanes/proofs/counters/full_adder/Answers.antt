use Rattle.fields.specs.Elements.{xor}
use Rattle.lanes.proofs.CarrySave.{adder_is}
use Rattle.lanes.proofs.counters.full_adder.Goals as goal

pub returns : goal.returns
unfolding xor
returns c = λ k. adder_is k _ _ _
