use mathlib.Core.Path.{refl}
use Rattle.fields.specs.Elements.{xor}
use Rattle.g709.specs.Steps.Folding.{exponents_below}
use Rattle.g709.proofs.Folds.{sum_of_none, one_more_tap, all_taps}
use borrow.Author.Rules.{rules}
use Rattle.g709.proofs.division.taps.Goals as goal

pub loop-e-init : goal.loop-e-init
loop-e-init c = search (rules, sum_of_none)

pub loop-e-preserved : goal.loop-e-preserved
unfolding xor exponents_below
loop-e-preserved c = one_more_tap c.args.q.now c.args.i c.loop-e.e-index c.loop-e.sum _ _ c.loop-e.invariant refl refl

pub returns : goal.returns
returns c = search (rules, all_taps)
