use Rattle.g709.proofs.ByteProducts.{part_none, part_all}
use borrow.Author.Rules.{rules}
use Rattle.g709.proofs.columns.part.Goals as goal

pub returns-then-y-lt1 : goal.returns-then-y-lt1
returns-then-y-lt1 c = search (rules, part_none)

pub returns-else-y-lt1 : goal.returns-else-y-lt1
returns-else-y-lt1 c = search (rules, part_all)
