use borrow.Author.Rules.{rules}
use Rattle.frames.proofs.OuterSymbols.Tested.{division_tested}
use Rattle.frames.proofs.outer_test.ends_with.Goals as goal

pub returns : goal.returns
returns c = search (rules, division_tested)
