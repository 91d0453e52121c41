use Rattle.std.proofs.Common.{◌∙◌}
use Rattle.std.proofs.lemmas.List.{set-get_or}
use Rattle.logging.proofs.Listing.{listed_start, listed_next, listed_end, listed_none}
use Rattle.logging.proofs.worst_words.Goals as goal

pub loop-place-init : goal.loop-place-init
loop-place-init c = listed_start (c.args.report.data, c.args.report.parity)

pub loop-place-preserved : goal.loop-place-preserved
loop-place-preserved c = listed_next _ _ _ _ c.loop-place.invariant c.loop-place-test.true _ c.in-Some.ensures.first

pub returns-after-loop-place : goal.returns-after-loop-place
returns-after-loop-place c = listed_end _ _ _ _ c.loop-place.invariant c.loop-place-test.false

pub returns-in_default : goal.returns-in_default
returns-in_default c = set-get_or _ _ _ ∙ listed_none _ _ _ _ c.loop-place.invariant c.in_default.ensures.first
