use Rattle.inner_words.proofs.Remainders.ResidueSteps.{taken_whole, taken_none}
use Rattle.inner_words.proofs.factor_residues.taken.Goals as goal

pub returns-then-i-eq1 : goal.returns-then-i-eq1
returns-then-i-eq1 g c = taken_whole _ _ _ c.if-i-eq1.true

pub returns-else-i-eq1 : goal.returns-else-i-eq1
returns-else-i-eq1 g c = taken_none _ _ _ c.if-i-eq1.false
