use borrow.Author.Rules.{rules}
use Rattle.fields.proofs.Ways.{product_none, product_left, product_right, product_both}
use Rattle.fields.proofs.ByTables.{product_by_tables}
use Rattle.fields.proofs.BinaryField.product.Goals as goal

pub returns-then-n-eq0 : goal.returns-then-n-eq0
returns-then-n-eq0 c = search (rules, product_none, product_by_tables)

pub returns-then-a-eq0 : goal.returns-then-a-eq0
returns-then-a-eq0 c = search (rules, product_left, product_by_tables)

pub returns-then-b-eq0 : goal.returns-then-b-eq0
returns-then-b-eq0 c = search (rules, product_right, product_by_tables)

pub returns : goal.returns
returns c = search (rules, product_both, product_by_tables)
