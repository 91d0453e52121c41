use borrow.Author.Rules.{rules}
use Rattle.inner_words.proofs.Passes.TooMany.{raised_none, going_end}
use Rattle.inner_words.proofs.candidates.raise.Goals as goal

pub returns-then-x-eq0 : goal.returns-then-x-eq0
returns-then-x-eq0 c = search (rules, raised_none)

pub returns : goal.returns
returns c = going_end c.loop-j.invariant c.loop-j-test.false
