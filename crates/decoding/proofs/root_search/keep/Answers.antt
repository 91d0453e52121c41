use borrow.Author.Rules.{rules}
use Rattle.decoding.proofs.Steps.RootsFound.{kept_full, kept_new}
use Rattle.decoding.proofs.root_search.keep.Goals as goal

pub returns-then-count-ge-RADIUS : goal.returns-then-count-ge-RADIUS
returns-then-count-ge-RADIUS c = search (rules, kept_full)

pub returns : goal.returns
returns c = search (rules, kept_new)
