use borrow.Author.Rules.{rules}
use Rattle.frames.proofs.Numbers.Groups.{eight_are}
use Rattle.frames.proofs.bits.eight_symbols.Goals as goal

pub returns : goal.returns
returns c = search (rules, eight_are)
