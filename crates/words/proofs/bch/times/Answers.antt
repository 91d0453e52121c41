use borrow.Author.Rules.{rules}
use Rattle.words.proofs.Steps.Products.{product_none, product_room, product_next}
use Rattle.words.proofs.bch.times.Goals as goal

pub loop-k-init : goal.loop-k-init
loop-k-init c = search (rules, product_none)

pub overflow_mul-u : goal.overflow_mul-u
overflow_mul-u c = search (rules, product_room)

pub loop-k-preserved : goal.loop-k-preserved
loop-k-preserved c = search (rules, product_next)
