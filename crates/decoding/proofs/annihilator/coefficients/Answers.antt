use mathlib.Core.Path.{◌∙◌}
use borrow.Author.Rules.{rules}
use Rattle.decoding.proofs.Steps.Elimination.{row_end}
use Rattle.decoding.proofs.annihilator.coefficients.Goals as goal

pub returns : goal.returns
returns c = c.copy_from_slice.ensures.after ∙ row_end c.args.u (search rules)
