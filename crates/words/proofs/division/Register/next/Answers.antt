use borrow.Author.Rules.{rules}
use Rattle.fields.proofs.Places.Filling.{over_start}
use Rattle.words.proofs.Steps.Digits.{digits_add}
use Rattle.words.proofs.Steps.Shifting.{shifting_next, shifting_end}
use Rattle.words.proofs.division.Register.next.Goals as goal

pub loop-i-init : goal.loop-i-init
loop-i-init c = search (rules, digits_add, over_start)

pub loop-i-preserved : goal.loop-i-preserved
loop-i-preserved c = search (rules, shifting_next)

pub returns : goal.returns
returns c = search (rules, shifting_end)
