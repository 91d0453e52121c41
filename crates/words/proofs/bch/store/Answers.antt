use borrow.Author.Rules.{rules}
use Rattle.words.proofs.Bits.Bytes.{bytes_end}
use Rattle.words.proofs.bch.store.Goals as goal

pub returns : goal.returns
returns c = search (rules, bytes_end)
