use Rattle.inner_words.proofs.Passes.InnerPass.{right_restored}
use Rattle.inner_words.proofs.one_by_one.correct_wrong.Goals as goal

pub returns-else-has-clause-put : goal.returns-else-has-clause-put
returns-else-has-clause-put c = rw c.if-has.false (right_restored _ _ _ _ c.has.ensures c.requires.k_value c.if-has.false)
