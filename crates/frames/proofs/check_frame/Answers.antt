use mathlib.Core.Path.{sym, ap, ◌∙◌, subst}
use mathlib.Core.List.{List}
use Prim.Native.Nat.{ℕ}
use borrow.Author.Rules.{rules}
use lib.ListN.{length, get_or}
use mir.Syntax.{w8}
use mir.Val.{Fits}
use Rattle.std.specs.Array.{IsWholeChunk}
use Rattle.frames.proofs.Answers.FrameAnswers.{check_length, check_accepted, check_no_frame}
use Rattle.frames.proofs.check_frame.Goals as goal

pub returns-in_default : goal.returns-in_default
returns-in_default c = search (rules, check_length)

pub returns-then-is_frame : goal.returns-then-is_frame
returns-then-is_frame c =
    let whole : IsWholeChunk c.args.block.now c.in-Ok.block.now 16320 = c.in-Ok.ensures.1 in
    let bytes = subst (λ (b : List ℕ). (i : ℕ) → Fits w8 (get_or b i 0)) (sym whole.same) c.type_inv.block in
    rw (← whole.same) (check_accepted _ (ap length whole.same ∙ whole.long) bytes _ c.is_frame.ensures c.if-is_frame.true)

pub returns-else-is_frame : goal.returns-else-is_frame
returns-else-is_frame c =
    let whole : IsWholeChunk c.args.block.now c.in-Ok.block.now 16320 = c.in-Ok.ensures.1 in
    let bytes = subst (λ (b : List ℕ). (i : ℕ) → Fits w8 (get_or b i 0)) (sym whole.same) c.type_inv.block in
    rw (← whole.same) (check_no_frame _ (ap length whole.same ∙ whole.long) bytes _ c.is_frame.ensures c.if-is_frame.false)
