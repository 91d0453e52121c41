use mathlib.Core.Path.{ap, ◌∙◌}
use borrow.Author.Rules.{rules}
use lib.ListN.{length}
use Rattle.std.specs.Array.{IsWholeChunk}
use Rattle.frames.specs.Steps.Symbols.{Sent}
use Rattle.frames.proofs.Answers.FrameAnswers.{encode_length, encode_space, encode_written}
use Rattle.frames.proofs.encode_frame.Goals as goal

pub returns-in_default : goal.returns-in_default
returns-in_default c = search (rules, encode_length)

pub returns-then-out-ne-BYTES : goal.returns-then-out-ne-BYTES
returns-then-out-ne-BYTES c =
    let whole : IsWholeChunk c.args.payload.now c.in-Ok.payload.now 15296 = c.in-Ok.ensures.1 in encode_space _ _ whole.long c.if-out-ne-BYTES.true

pub returns : goal.returns
returns c =
    let whole : IsWholeChunk c.args.payload.now c.in-Ok.payload.now 15296 = c.in-Ok.ensures.1 in
    let sent : Sent c.encode.new.outer c.send.new.out = search rules in
    rw (← whole.same) (encode_written _ _ (ap length whole.same ∙ whole.long) _ _ _ c.if-out-ne-BYTES.false c.encode.ensures sent c.encode-2.ensures)
