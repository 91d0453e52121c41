use Rattle.std.proofs.Common.{◌∙◌}
use Rattle.logging.proofs.Order.{before_ranked}
use Rattle.logging.proofs.is_before.Goals as goal

pub returns : goal.returns
returns c =
    c.gt.ensures
    ∙ before_ranked _ _ _ _ _ _ _ _ _ c.of.ensures.count c.of-2.ensures.count c.of.ensures.in_data c.of-2.ensures.in_data c.of.ensures.number c.of-2.ensures.number
