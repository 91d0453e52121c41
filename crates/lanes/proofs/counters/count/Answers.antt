use Rattle.std.proofs.Common.{◌*◌, ◌∙◌, rules, length-set}
use Rattle.std.proofs.lemmas.List.{length-replicate}
use Rattle.fields.proofs.Places.Filling.{zeros_at}
use Rattle.lanes.proofs.CarrySave.{carried_default, carried_next, eight_from}
use Rattle.lanes.proofs.counters.count.Goals as goal

pub loop-i-init : goal.loop-i-init
loop-i-init g c = (length-replicate g.row.CARRIES 0, carried_default (search rules) (zeros_at g.row.CARRIES))

pub loop-i-preserved : goal.loop-i-preserved
loop-i-preserved g c =
    let so_far = c.loop-i.invariant in (
      length-set _ _ _ ∙ so_far.0,
      carried_next so_far.1 c.loop-i-test.true c.requires so_far.0 (eight_from c.args.xs.now (8 * c.loop-i.i) c.eight_more-s.ensures),
    )
