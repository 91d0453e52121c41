use borrow.Author.Rules.{rules}
use Rattle.frames.proofs.Numbers.Windows.{symbol_read}
use Rattle.frames.proofs.bits.symbol.Goals as goal

pub returns : goal.returns
returns c = search (rules, symbol_read, c.type_inv.bytes)
