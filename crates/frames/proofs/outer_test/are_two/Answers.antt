use native.Mathlib.Omega.{arith}
use Rattle.frames.proofs.OuterSymbols.Tested.{data_packs}
use Rattle.frames.proofs.outer_test.are_two.Goals as goal

pub ends_with-requires-clause-packs : goal.ends_with-requires-clause-packs
ends_with-requires-clause-packs c = data_packs _ _ _ _ _ (omega arith) c.divide_two.ensures.first

pub ends_with-requires-then-ends_with-clause-packs : goal.ends_with-requires-then-ends_with-clause-packs
ends_with-requires-then-ends_with-clause-packs c = data_packs _ _ _ _ _ c.requires c.divide_two.ensures.second
