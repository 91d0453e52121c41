use borrow.Author.Rules.{rules}
use Rattle.words.proofs.Bits.Bytes.{half_read, half_past, half_lt}
use Rattle.words.proofs.bch.four_places.Goals as goal

pub returns-then-i-bytes : goal.returns-then-i-bytes
returns-then-i-bytes c = search (rules, half_read, half_lt)

pub returns : goal.returns
returns c = search (rules, half_past)
