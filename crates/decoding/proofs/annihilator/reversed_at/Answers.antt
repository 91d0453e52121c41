use borrow.Author.Rules.{rules}
use Rattle.decoding.proofs.Steps.BerlekampMassey.{reversed_zero, reversed_other}
use Rattle.decoding.proofs.annihilator.reversed_at.Goals as goal

pub returns-then-k-order-lt-RADIUS : goal.returns-then-k-order-lt-RADIUS
returns-then-k-order-lt-RADIUS c = search (rules, reversed_zero)

pub returns : goal.returns
returns c = search (rules, reversed_other)
