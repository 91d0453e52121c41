use Rattle.std.proofs.Common.{arith}
use Rattle.lanes.proofs.CarrySave.{carried_first, carried_end, all_counted_lem}
use Rattle.lanes.proofs.counters.counts.Goals as goal

pub returns : goal.returns
returns c =
    all_counted_lem c.args.low c.count.result.0 c.count-2.result.0 c.count-3.result.0 c.args.eights.now c.count.result.1 c.count-2.result.1 c.count-3.result.1
    c.args.n c.requires
    (carried_first c.args.eights.now c.args.n (omega arith) c.count.ensures)
    (carried_end c.count-2.ensures (omega arith) (omega arith))
    (carried_end c.count-3.ensures (omega arith) (omega arith))
    c.numbers.result c.numbers.ensures
