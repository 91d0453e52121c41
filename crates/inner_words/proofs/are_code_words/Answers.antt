use borrow.Author.Rules.{rules}
use Rattle.inner_words.proofs.Passes.WrongWords.{none_wrong}
use Rattle.inner_words.proofs.are_code_words.Goals as goal

pub returns : goal.returns
returns c = search (rules, none_wrong)
