use native.Mathlib.Omega.{arith}
use Rattle.g709.proofs.PowerColumns.{evaluated_start, evaluated_next, evaluated_end}
use borrow.Author.Rules.{rules}
use Rattle.g709.proofs.root_columns.evaluate.Goals as goal

pub loop-e-init : goal.loop-e-init
loop-e-init c = (search rules, search rules, evaluated_start _ _ (record { small = c.fits-terms }))

pub loop-e-preserved : goal.loop-e-preserved
loop-e-preserved c = (
  search rules,
  search rules,
  evaluated_next _ _ _ _ _ _ c.loop-e.invariant.2 c.loop-e.invariant.0 c.loop-e.invariant.1 c.loop-e-test.true c.add_up.ensures c.advance.ensures,
)

pub returns : goal.returns
returns c = evaluated_end _ _ _ _ c.loop-e.invariant.2 c.loop-e.invariant.1 (omega arith)
