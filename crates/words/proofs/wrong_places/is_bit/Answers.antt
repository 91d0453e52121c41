use borrow.Author.Rules.{rules}
use Rattle.words.proofs.Steps.Inner.{bit_none, bit_some}
use Rattle.words.proofs.wrong_places.is_bit.Goals as goal

pub returns-then-value-eq0 : goal.returns-then-value-eq0
returns-then-value-eq0 c = search (rules, bit_none)

pub returns-else-value-eq0 : goal.returns-else-value-eq0
returns-else-value-eq0 c = search (rules, bit_some)
