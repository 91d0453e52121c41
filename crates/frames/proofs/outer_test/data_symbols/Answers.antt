use borrow.Author.Rules.{rules}
use Rattle.frames.proofs.OuterSymbols.Tested.{symbols_lt, cleared_lt, data_whole, data_padded}
use Rattle.frames.proofs.outer_test.data_symbols.Goals as goal

pub returns-then-t-n : goal.returns-then-t-n
returns-then-t-n c = search (rules, data_padded, cleared_lt)

pub returns : goal.returns
returns c = search (rules, data_whole, symbols_lt)
