use borrow.Author.Rules.{rules}
use Rattle.frames.proofs.Correction.OuterPass.{padded_first, padded_last}
use Rattle.frames.proofs.outer_words.is_padded.Goals as goal

pub returns-then-w-lt-LAST : goal.returns-then-w-lt-LAST
returns-then-w-lt-LAST c = search (rules, padded_first)

pub returns : goal.returns
returns c = search (rules, padded_last)
