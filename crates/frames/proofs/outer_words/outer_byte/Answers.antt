use borrow.Author.Rules.{rules}
use Rattle.frames.proofs.Numbers.Windows.{byte_of_symbols}
use Rattle.frames.proofs.outer_words.outer_byte.Goals as goal

pub returns : goal.returns
returns c = search (rules, byte_of_symbols)
