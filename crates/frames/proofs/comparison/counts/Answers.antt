use mathlib.Core.Path.{refl}
use borrow.Author.Rules.{rules}
use Rattle.fields.proofs.Places.Filling.{zeros_at}
use Rattle.lanes.proofs.CarrySave.{carried_default}
use Rattle.frames.proofs.Correction.ReportCounts.{counted_next, counted_end}
use Rattle.frames.proofs.comparison.counts.Goals as goal

pub loop-i-init : goal.loop-i-init
loop-i-init c = (search rules, search rules, carried_default (search rules) (zeros_at 256))

pub loop-i-preserved : goal.loop-i-preserved
loop-i-preserved c =
    let inv = c.loop-i.invariant in (
      search rules,
      search rules,
      counted_next _ _ _ _ _ _ inv.2 _ _ _ _ c.loop-i-test.true refl c.requires.1 inv.0 c.differences.ensures c.eight_more-planes.ensures,
    )

pub returns : goal.returns
returns c = search (rules, counted_end)
