use mathlib.Core.Path.{refl}
use native.Mathlib.Omega.{arith}
use Rattle.fields.specs.Elements.{xor}
use Rattle.g709.proofs.Lanes.{zeros_table, zeros_length}
use Rattle.g709.proofs.Folds.{quotient_start, quotient_next, folded_first}
use borrow.Author.Rules.{rules}
use Rattle.g709.proofs.division.fold.Goals as goal

pub loop-i-init : goal.loop-i-init
loop-i-init c = (zeros_length 5376, quotient_start _ _ (zeros_table 5376))

pub loop-i-preserved : goal.loop-i-preserved
unfolding xor
loop-i-preserved c = (search rules, quotient_next _ _ _ _ _ c.loop-i.invariant.1 c.loop-i-test.true c.loop-i.invariant.0 (c.fits-payload c.loop-i.i) c.taps.ensures refl)

pub loop-i-2-preserved : goal.loop-i-2-preserved
unfolding xor
loop-i-2-preserved c = folded_first _ _ _ _ _ _ c.loop-i-2.invariant (omega arith) c.taps-in-loop-i-2.ensures c.loop-i-2-test.true refl
