use borrow.Author.Rules.{rules}
use Rattle.frames.proofs.OuterSymbols.Tested.{division_high, division_next}
use Rattle.frames.proofs.outer_test.six_more.Goals as goal

pub next-requires : goal.next-requires
next-requires c = search (rules, division_high)

pub returns : goal.returns
returns c = search (rules, division_next)
