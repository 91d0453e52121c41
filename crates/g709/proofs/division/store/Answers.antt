use Rattle.fields.specs.Elements.{xor}
use Rattle.g709.proofs.Lanes.{cell_next, cell_end}
use borrow.Author.Rules.{rules}
use Rattle.g709.proofs.division.store.Goals as goal

pub loop-j-preserved : goal.loop-j-preserved
unfolding xor
loop-j-preserved c = search (rules, cell_next)

pub returns : goal.returns
returns c = search (rules, cell_end)
