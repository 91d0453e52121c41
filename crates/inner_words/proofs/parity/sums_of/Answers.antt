use Rattle.fields.specs.Elements.{xor}
use Rattle.inner_words.proofs.ParityPlaces.ParitySteps.{sixteen_sums}
use Rattle.inner_words.proofs.parity.sums_of.Goals as goal

pub returns : goal.returns
unfolding xor
returns c = sixteen_sums _ _ _ _
