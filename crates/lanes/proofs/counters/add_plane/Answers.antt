use borrow.Author.Rules.{rules}
use Rattle.lanes.proofs.CarrySave.{plane_none, plane_next, plane_end}
use Rattle.lanes.proofs.counters.add_plane.Goals as goal

pub returns-then-x-eq0 : goal.returns-then-x-eq0
returns-then-x-eq0 c = search (rules, plane_none)

pub loop-k-preserved : goal.loop-k-preserved
loop-k-preserved c = search (rules, plane_next)

pub returns : goal.returns
returns c = search (rules, plane_end)
