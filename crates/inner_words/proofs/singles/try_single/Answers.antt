use Rattle.inner_words.proofs.Passes.InnerPass.{tried_nearer}
use Rattle.inner_words.proofs.singles.try_single.Goals as goal

pub returns-then-has : goal.returns-then-has
returns-then-has c =
    tried_nearer _ _ _ _ c.has.ensures c.requires.k_value c.if-has.true _ _ c.correct_single.ensures.corrected c.correct_single.ensures.left
