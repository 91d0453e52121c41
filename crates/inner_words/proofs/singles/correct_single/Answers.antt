use borrow.Author.Rules.{rules}
use Rattle.inner_words.proofs.Passes.SingleErrors.{single_restored}
use Rattle.inner_words.proofs.singles.correct_single.Goals as goal

pub returns-clause-corrected : goal.returns-clause-corrected
returns-clause-corrected c = λ q. search (rules, single_restored)
