use Rattle.g709.proofs.Correcting.{lane_end}
use borrow.Author.Rules.{rules}
use Rattle.g709.proofs.columns.lane.Goals as goal

pub returns : goal.returns
returns c = search (rules, lane_end)
