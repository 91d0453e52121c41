use Rattle.fields.proofs.Places.Filling.{over_start, over_next}
use borrow.Author.Rules.{rules}
use Rattle.decoding.proofs.Steps.RootsFound.{first_none, first_over, quotient_end}
use Rattle.decoding.proofs.root_search.divide.Goals as goal

pub loop-k-init : goal.loop-k-init
loop-k-init c = search (rules, over_start, first_none)

pub loop-k-preserved : goal.loop-k-preserved
loop-k-preserved c = search (rules, over_next, first_over)

pub returns : goal.returns
returns c = search (rules, quotient_end)
