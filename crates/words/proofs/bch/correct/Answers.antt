use borrow.Author.Rules.{rules}
use Rattle.words.proofs.Steps.Inner.{corrected_word}
use Rattle.words.proofs.bch.correct.Goals as goal

pub returns : goal.returns
returns c = search (rules, corrected_word)
