use borrow.Author.Rules.{rules}
use Rattle.frames.proofs.OuterSymbols.Tested.{division_first, data_more}
use Rattle.frames.proofs.outer_test.first_symbols.Goals as goal

pub data_symbols-requires : goal.data_symbols-requires
data_symbols-requires c = search (rules, data_more)

pub returns : goal.returns
returns c = search (rules, division_first)
