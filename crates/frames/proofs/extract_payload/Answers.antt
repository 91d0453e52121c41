use mathlib.Core.Path.{sym, ap, ◌∙◌, subst}
use mathlib.Core.List.{List}
use Prim.Native.Nat.{ℕ}
use borrow.Author.Rules.{rules}
use lib.ListN.{length, get_or}
use mir.Syntax.{w8}
use mir.Val.{Fits}
use Rattle.std.specs.Array.{IsWholeChunk}
use Rattle.frames.proofs.Answers.FrameAnswers.{extract_length, extract_space, extract_no_frame, extract_written}
use Rattle.frames.proofs.extract_payload.Goals as goal

pub returns-in_default : goal.returns-in_default
returns-in_default c = search (rules, extract_length)

pub returns-then-out-ne-PAYLOAD_BYTES : goal.returns-then-out-ne-PAYLOAD_BYTES
returns-then-out-ne-PAYLOAD_BYTES c =
    let whole : IsWholeChunk c.args.block.now c.in-Ok.block.now 16320 = c.in-Ok.ensures.1 in extract_space _ _ whole.long c.if-out-ne-PAYLOAD_BYTES.true

pub returns-then-not-is_frame : goal.returns-then-not-is_frame
returns-then-not-is_frame c =
    let whole : IsWholeChunk c.args.block.now c.in-Ok.block.now 16320 = c.in-Ok.ensures.1 in
    let bytes = subst (λ (b : List ℕ). (i : ℕ) → Fits w8 (get_or b i 0)) (sym whole.same) c.type_inv.block in
    rw (← whole.same) (extract_no_frame _ _ (ap length whole.same ∙ whole.long) c.if-out-ne-PAYLOAD_BYTES.false bytes _ c.is_frame.ensures c.if-not-is_frame.true)

pub returns : goal.returns
returns c =
    let whole : IsWholeChunk c.args.block.now c.in-Ok.block.now 16320 = c.in-Ok.ensures.1 in
    let bytes = subst (λ (b : List ℕ). (i : ℕ) → Fits w8 (get_or b i 0)) (sym whole.same) c.type_inv.block in
    rw (← whole.same)
    (extract_written _ _ (ap length whole.same ∙ whole.long) c.if-out-ne-PAYLOAD_BYTES.false bytes _ c.is_frame.ensures _ _ c.if-not-is_frame.false c.receive.ensures
    c.extract.ensures)
