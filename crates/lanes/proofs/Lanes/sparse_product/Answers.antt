use Rattle.lanes.proofs.Lanewise.{none_times}
use Rattle.lanes.proofs.Lanes.sparse_product.Goals as goal

pub returns-then-nonzero-eq0 : goal.returns-then-nonzero-eq0
returns-then-nonzero-eq0 c = λ k. none_times k _ _ _ (c.nonzero.ensures k) c.if-nonzero-eq0.true
