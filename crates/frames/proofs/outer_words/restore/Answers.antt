use mathlib.Core.Path.{◌≡◌, sym, ◌∙◌}
use native.Mathlib.Omega.{arith}
use borrow.Author.Rules.{rules}
use Rattle.std.specs.Prelude.{None}
use Rattle.frames.proofs.Frames.FrameBits.{data_in_le, data_in_is}
use Rattle.frames.proofs.Correction.OuterPass.{space_long, corrected_is, refused_is, restored_none, restored_not, restored_word}
use Rattle.frames.proofs.outer_words.restore.Goals as goal

pub slice_bounds-space-end : goal.slice_bounds-space-end
slice_bounds-space-end c = omega (arith, data_in_le c.args.w)

pub slice_bounds-restored-end : goal.slice_bounds-restored-end
slice_bounds-restored-end c = omega (arith, space_long c.args.w c.args.word.now c.requires.w_bound.1)

pub correct_from-requires-clause-in_bounds : goal.correct_from-requires-clause-in_bounds
correct_from-requires-clause-in_bounds c =
    let n = data_in_is c.args.w c.requires.w_bound.0 in
    (omega arith, omega arith, c.requires.w_bound.2, space_long c.args.w c.args.word.now c.requires.w_bound.1)

pub returns-in_err-ok : goal.returns-in_err-ok
returns-in_err-ok c =
    let none : c.from_residual.result ≡ None = search rules in
    rw none (restored_none _ c.requires.w_bound.0 c.args.word.now c.requires.w_bound.1 c.requires.w_bound.2 _ _ _ c.correct_from.ensures
    (space_long c.args.w c.args.word.now c.requires.w_bound.1) _ (refused_is _ (sym c.ok.ensures.value ∙ c.in_err-ok.was)))

pub returns-then-not-is_padded : goal.returns-then-not-is_padded
returns-then-not-is_padded c =
    restored_not _ c.requires.w_bound.0 c.args.word.now c.requires.w_bound.1 c.requires.w_bound.2 _ _ _ c.correct_from.ensures
    (space_long c.args.w c.args.word.now c.requires.w_bound.1) _ (corrected_is _ _ (sym c.ok.ensures.value ∙ c.in_ok-ok.was)) _ c.is_padded.ensures c.if-not-is_padded.true

pub copy_from_slice-requires : goal.copy_from_slice-requires
copy_from_slice-requires c = sym (c.correct_from.auto.out ∙ space_long c.args.w c.args.word.now c.requires.w_bound.1)

pub returns : goal.returns
returns c =
    restored_word _ c.requires.w_bound.0 c.args.word.now c.requires.w_bound.1 c.requires.w_bound.2 _ _ _ c.correct_from.ensures
    (space_long c.args.w c.args.word.now c.requires.w_bound.1) _ (corrected_is _ _ (sym c.ok.ensures.value ∙ c.in_ok-ok.was)) _ c.is_padded.ensures c.if-not-is_padded.false _
    c.copy_from_slice.ensures.after
