use borrow.Author.Rules.{rules}
use Rattle.frames.proofs.Numbers.Groups.{each_next, numbers_end}
use Rattle.frames.proofs.bits.write_each.Goals as goal

pub loop-s-preserved : goal.loop-s-preserved
loop-s-preserved c = search (rules, each_next)

pub returns : goal.returns
returns c = search (rules, numbers_end)
