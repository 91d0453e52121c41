use mathlib.Core.Path.{ap, ◌∙◌}
use Rattle.std.specs.Option.{is_some}
use Rattle.frames.proofs.Correction.OuterPass.{kept_is, code_kept}
use Rattle.frames.proofs.outer_words.correct_word.Goals as goal

pub returns-then-is_zero : goal.returns-then-is_zero
returns-then-is_zero c =
    code_kept _ c.requires.0 c.args.word.now c.requires.1 c.requires.2 _ _ _ c.remainder-rest.ensures _ c.is_zero.ensures c.if-is_zero.true _
    (ap is_some c.then_some.ensures ∙ kept_is c.is_padded.result _ ∙ c.is_padded.ensures)
