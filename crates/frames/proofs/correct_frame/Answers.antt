use mathlib.Core.Path.{ap, ◌∙◌}
use lib.ListN.{length}
use Rattle.std.specs.Array.{IsWholeChunk}
use Rattle.frames.proofs.Answers.CorrectionAnswers.{correct_length, correct_space, correct_none, correct_written}
use Rattle.frames.proofs.correct_frame.Goals as goal

pub returns-in_default : goal.returns-in_default
returns-in_default c = let r = c.refused.ensures in correct_length _ _ c.in_default.ensures.1 _ _ _ _ r.0 r.1 r.2 r.3

pub returns-then-out-ne-BYTES : goal.returns-then-out-ne-BYTES
returns-then-out-ne-BYTES c =
    let whole : IsWholeChunk c.args.block.now c.in-Ok.block.now 16320 = c.in-Ok.ensures.1 in
    let r = c.refused-then-out-ne-BYTES.ensures in
    correct_space _ _ whole.long c.if-out-ne-BYTES.true _ _ _ _ r.0 r.1 r.2 r.3

pub returns-then-is_none : goal.returns-then-is_none
returns-then-is_none c =
    let whole : IsWholeChunk c.args.block.now c.in-Ok.block.now 16320 = c.in-Ok.ensures.1 in
    let r = c.refused-then-is_none.ensures in
    rw (← whole.same)
    (correct_none _ _ (ap length whole.same ∙ whole.long) c.if-out-ne-BYTES.false _ _ c.restore_frame.ensures c.if-is_none.ensures _ _ _ _ r.0 r.1 r.2 r.3)

pub returns : goal.returns
returns c =
    let whole : IsWholeChunk c.args.block.now c.in-Ok.block.now 16320 = c.in-Ok.ensures.1 in
    rw (← whole.same)
    (correct_written _ _ (ap length whole.same ∙ whole.long) c.if-out-ne-BYTES.false _ _ c.restore_frame.ensures c.if-is_none.ensures _ c.conclude.ensures)
