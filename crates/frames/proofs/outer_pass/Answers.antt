use mathlib.Core.Path.{◌≡◌, ap}
use native.Mathlib.Omega.{arith}
use borrow.Author.Rules.{rules}
use Rattle.std.specs.Prelude.{None}
use Rattle.std.specs.Option.{is_some}
use Rattle.frames.proofs.Answers.CorrectionAnswers.{pass_kept, pass_none, pass_written}
use Rattle.frames.proofs.outer_pass.Goals as goal

pub returns-then-are_code_words : goal.returns-then-are_code_words
returns-then-are_code_words c =
    pass_kept _ _ _ (omega arith) (λ i. record { fits = c.fits-frame i }) c.requires c.if-inner.true c.are_code_words.ensures c.if-are_code_words.true

pub returns-in_err-correct : goal.returns-in_err-correct
returns-in_err-correct c =
    let none : c.from_residual.result ≡ None = search rules in
    rw none (pass_none _ _ _ c.correct.ensures (ap is_some c.in_err-correct.was))

pub returns : goal.returns
returns c = pass_written _ _ _ c.correct.ensures (ap is_some c.in_ok-correct.was) _ _ (omega arith) c.send.ensures c.encode.ensures
