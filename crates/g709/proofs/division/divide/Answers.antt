use Rattle.g709.proofs.Overlays.{part_at}
use Rattle.g709.proofs.Folds.{row_folded}
use Rattle.g709.proofs.division.divide.Goals as goal

pub returns : goal.returns
returns c =
    row_folded _ _ _ _ _ _ c.fold.ensures.1 c.fold.ensures.2 c.steps-r.ensures (λ i l. part_at 256 1040 c.fold.new.columns i l) c.add.ensures
    c.fits-payload
