use native.Mathlib.Omega.{arith}
use Rattle.lanes.proofs.CarrySave.{eight_added}
use Rattle.lanes.proofs.counters.eight_more.Goals as goal

pub returns : goal.returns
returns c =
    eight_added (λ k.
    omega (
      arith,
      c.full_adder-ones.ensures k,
      c.full_adder-ones-2.ensures k,
      c.full_adder-ones-3.ensures k,
      c.full_adder-ones-4.ensures k,
      c.full_adder-twos.ensures k,
      c.full_adder-twos-2.ensures k,
      c.full_adder-fours.ensures k,
    ))
