use borrow.Author.Rules.{rules}
use Rattle.inner_words.proofs.Remainders.ResidueCodes.{words_wrong}
use Rattle.inner_words.proofs.residues.wrong_words.Goals as goal

pub returns : goal.returns
returns c = search (rules, words_wrong)
