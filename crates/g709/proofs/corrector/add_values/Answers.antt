use Rattle.g709.proofs.Correcting.{values_start, values_next}
use Rattle.g709.proofs.corrector.add_values.Goals as goal

pub loop-k-init : goal.loop-k-init
loop-k-init c = values_start _ _ _ _

pub loop-k-preserved : goal.loop-k-preserved
loop-k-preserved c = values_next _ _ _ _ _ _ _ _ _ c.loop-k.invariant c.add.ensures c.standing.ensures c.loop-k-test.true c.requires.from_bound.1
