use borrow.Author.Rules.{rules}
use Rattle.frames.proofs.OuterSymbols.Writing.{symbol_padded, symbol_after}
use Rattle.frames.proofs.outer_words.last_symbol.Goals as goal

pub returns-then-t-eq-PADDED : goal.returns-then-t-eq-PADDED
returns-then-t-eq-PADDED c = search (rules, symbol_padded)

pub returns : goal.returns
returns c = search (rules, symbol_after)
