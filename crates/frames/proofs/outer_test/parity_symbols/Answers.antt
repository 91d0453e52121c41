use borrow.Author.Rules.{rules}
use Rattle.frames.proofs.OuterSymbols.Tested.{parity_first, parity_last}
use Rattle.frames.proofs.outer_test.parity_symbols.Goals as goal

pub returns-then-w-lt-LAST : goal.returns-then-w-lt-LAST
returns-then-w-lt-LAST c = search (rules, parity_first)

pub returns : goal.returns
returns c = search (rules, parity_last)
