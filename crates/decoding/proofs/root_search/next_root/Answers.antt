use borrow.Author.Rules.{rules}
use Rattle.decoding.proofs.Steps.Search.{single_none, passed_none, passed_found, passed_end, passed_on}
use Rattle.decoding.proofs.root_search.next_root.Goals as goal

pub returns-then-count-eq1 : goal.returns-then-count-eq1
returns-then-count-eq1 c = search (rules, single_none)

pub loop-j-init : goal.loop-j-init
loop-j-init c = search (rules, passed_none)

pub returns-then-next_value-eq0 : goal.returns-then-next_value-eq0
returns-then-next_value-eq0 c = search (rules, passed_found)

pub loop-j-preserved : goal.loop-j-preserved
loop-j-preserved c =
    passed_on _ _ _ _ _ _ _ _ _ _ _ _ _ c.requires.tables c.loop-j.invariant (search rules) c.next_value.ensures.value (search rules) c.next_value.ensures.exponents_after
    c.next_value.ensures.steps_after

pub returns : goal.returns
returns c = search (rules, passed_end)
