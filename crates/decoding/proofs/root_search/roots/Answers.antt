use borrow.Author.Rules.{rules}
use Rattle.decoding.proofs.Steps.RootsFound.{standing_none, standing_elements, standing_next}
use Rattle.decoding.proofs.root_search.roots.Goals as goal

pub loop-next-init : goal.loop-next-init
loop-next-init c = search (rules, standing_none)

pub next_root-next-requires-in-Some-clause-by_index : goal.next_root-next-requires-in-Some-clause-by_index
next_root-next-requires-in-Some-clause-by_index c =
    standing_elements _ _ _ _ _ _ c.in-Some.is _ _ c.loop-next.invariant c.requires.tables _ _ c.divide.ensures

pub loop-next-preserved : goal.loop-next-preserved
loop-next-preserved c =
    standing_next _ _ _ _ _ _ c.in-Some.is _ _ c.loop-next.invariant c.requires.tables (search rules) _ _ _ _ c.keep-p.ensures c.locator.ensures c.divide.ensures
    c.next_root-next-in-Some.ensures
