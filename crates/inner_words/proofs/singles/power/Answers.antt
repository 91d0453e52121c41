use Rattle.std.proofs.Common.{arith}
use Rattle.inner_words.proofs.Passes.SingleErrors.{power_is, powers_are}
use Rattle.inner_words.proofs.singles.power.Goals as goal

pub bounds-field_b-n : goal.bounds-field_b-n
bounds-field_b-n c = let long = powers_are _ c.field_b.ensures.exp in omega (arith, long)

pub returns : goal.returns
returns c = power_is _ _ c.field_b.ensures.exp
