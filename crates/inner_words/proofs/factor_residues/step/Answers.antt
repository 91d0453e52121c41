use Rattle.fields.specs.Elements.{xor}
use Rattle.fields.specs.Lists.{tabulate}
use Rattle.inner_words.specs.Steps.InnerResidues.{advanced}
use Rattle.inner_words.proofs.factor_residues.step.Goals as goal

pub returns : goal.returns
unfolding advanced tabulate xor
returns g c = cc
