use borrow.Author.Rules.{rules}
use Rattle.decoding.proofs.Steps.Search.{less_low, less_high}
use Rattle.decoding.proofs.exponents.less.Goals as goal

pub returns-then-e-d : goal.returns-then-e-d
returns-then-e-d c = search (rules, less_low)

pub returns-else-e-d : goal.returns-else-e-d
returns-else-e-d c = search (rules, less_high)
