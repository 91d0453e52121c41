use borrow.Author.Rules.{rules}
use Rattle.decoding.proofs.Steps.Search.{terms_none, terms_next}
use Rattle.decoding.proofs.root_search.terms_at.Goals as goal

pub loop-d-init : goal.loop-d-init
loop-d-init c = search (rules, terms_none)

pub loop-d-preserved : goal.loop-d-preserved
loop-d-preserved c =
    terms_next _ _ _ _ _ _ _ c.loop-d.invariant _ _ _ _ c.loop-d-test.true
    c.product-value.ensures.by_tables c.power.ensures.by_table c.with_term-t.ensures c.product-power.ensures.by_tables
