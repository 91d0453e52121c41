use borrow.Author.Rules.{rules}
use Rattle.fields.proofs.Places.Tests.{below_lt}
use Rattle.words.proofs.Steps.Loops.{divided_none, divided_below, divided_next, divided_end}
use Rattle.words.proofs.division.divide.Goals as goal

pub loop-symbol-init : goal.loop-symbol-init
loop-symbol-init c = search (rules, divided_none)

pub next-register-requires : goal.next-register-requires
next-register-requires c = search (rules, divided_below, below_lt)

pub loop-symbol-preserved : goal.loop-symbol-preserved
loop-symbol-preserved c = search (rules, divided_next)

pub returns : goal.returns
returns c = search (rules, divided_end)
