use Rattle.g709.proofs.WordByWord.{alone_first, alone_later}
use borrow.Author.Rules.{rules}
use Rattle.g709.proofs.corrector.alone.Goals as goal

pub returns-then-r-eq0 : goal.returns-then-r-eq0
returns-then-r-eq0 c = (alone_first c.args.r c.if-r-eq0.true, search rules)

pub returns-else-r-eq0 : goal.returns-else-r-eq0
returns-else-r-eq0 c = (alone_later c.args.r c.if-r-eq0.false, search rules)
