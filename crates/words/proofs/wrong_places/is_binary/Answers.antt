use borrow.Author.Rules.{rules}
use Rattle.words.proofs.Steps.Inner.{binary_none, binary_not, binary_next, binary_end}
use Rattle.words.proofs.wrong_places.is_binary.Goals as goal

pub loop-k-init : goal.loop-k-init
loop-k-init c = search (rules, binary_none)

pub returns-then-not-is_bit : goal.returns-then-not-is_bit
returns-then-not-is_bit c = search (rules, binary_not)

pub loop-k-preserved : goal.loop-k-preserved
loop-k-preserved c = search (rules, binary_next)

pub returns : goal.returns
returns c = search (rules, binary_end)
