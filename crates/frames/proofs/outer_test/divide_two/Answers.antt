use Prim.Native.Nat.{◌+◌}
use native.Mathlib.Omega.{arith}
use Rattle.frames.proofs.Frames.FrameBits.{data_in_first}
use Rattle.frames.proofs.outer_test.divide_two.Goals as goal

pub six_more-first-requires : goal.six_more-first-requires
six_more-first-requires c = record {
  within = (omega arith, omega (arith, data_in_first c.args.w (omega arith)), omega arith);
  packs = c.loop-step.invariant.0;
}

pub six_more-second-requires : goal.six_more-second-requires
six_more-second-requires c = record {
  within = (omega arith, omega (arith, data_in_first (c.args.w + 1) c.requires), omega arith);
  packs = c.loop-step.invariant.1;
}
