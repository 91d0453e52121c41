use Rattle.words.proofs.Steps.Joining.{symbol_masked}
use borrow.Author.Rules.{rules}
use Rattle.words.proofs.packed.symbol.Goals as goal

pub returns : goal.returns
returns c = search (rules, symbol_masked)
