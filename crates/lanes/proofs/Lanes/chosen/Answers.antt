use mathlib.Core.Path.{ap, ◌∙◌}
use Rattle.fields.specs.Elements.{xor, scale}
use Rattle.lanes.proofs.Lanewise.{chosen_is}
use Rattle.lanes.proofs.Lanes.chosen.Goals as goal

pub returns : goal.returns
returns c = λ k. c.plus-2.ensures k ∙ ap (xor _) (c.masked.ensures k ∙ ap (scale _) (c.plus.ensures k)) ∙ chosen_is k _ _ _
