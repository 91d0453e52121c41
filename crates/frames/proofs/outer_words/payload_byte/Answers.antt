use borrow.Author.Rules.{rules}
use Rattle.frames.proofs.OuterSymbols.Writing.{payload_read}
use Rattle.frames.proofs.outer_words.payload_byte.Goals as goal

pub returns : goal.returns
returns c = search (rules, payload_read)
