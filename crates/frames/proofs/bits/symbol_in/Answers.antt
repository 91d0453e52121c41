use borrow.Author.Rules.{rules}
use Rattle.frames.proofs.Numbers.Groups.{symbol_inside}
use Rattle.frames.proofs.bits.symbol_in.Goals as goal

pub returns : goal.returns
returns c = search (rules, symbol_inside, c.type_inv.bytes)
