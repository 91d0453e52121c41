use borrow.Author.Rules.{rules}
use Rattle.lanes.proofs.CarrySave.{weighing_start, weighing_few, weighing_light, weighing_next, weighing_end}
use Rattle.lanes.proofs.counters.numbers.Goals as goal

pub loop-i-init : goal.loop-i-init
loop-i-init c = search (rules, weighing_start)

pub add_plane-requires : goal.add_plane-requires
add_plane-requires c = search (rules, weighing_light, weighing_few)

pub loop-i-preserved : goal.loop-i-preserved
loop-i-preserved c = search (rules, weighing_next)

pub returns : goal.returns
returns c = search (rules, weighing_end)
