use borrow.Author.Rules.{rules}
use Rattle.frames.proofs.Numbers.Windows.{byte_read}
use Rattle.frames.proofs.bits.byte_of.Goals as goal

pub returns : goal.returns
returns c = rw (c.from.ensures, c.from-2.ensures) (search (rules, byte_read))
