use Rattle.fields.specs.Elements.{xor}
use Rattle.g709.proofs.ByteProducts.{product_start, product_next, product_end}
use borrow.Author.Rules.{rules}
use Rattle.g709.proofs.columns.product.Goals as goal

pub loop-i-init : goal.loop-i-init
loop-i-init c = search (rules, product_start)

pub loop-i-preserved : goal.loop-i-preserved
unfolding xor
loop-i-preserved c = search (rules, product_next)

pub returns : goal.returns
returns c = search (rules, product_end)
