use mathlib.Core.Path.{◌≡◌, refl, ap}
use native.Mathlib.Omega.{arith}
use borrow.Author.Rules.{rules}
use Rattle.std.specs.Prelude.{None}
use Rattle.std.specs.Option.{is_some}
use Rattle.frames.proofs.Correction.OuterPass.{restoring_long, restoring_below, restoring_next, restoring_not, restoring_end}
use Rattle.frames.proofs.outer_words.correct.Goals as goal

pub correct_word-requires : goal.correct_word-requires
correct_word-requires c = (
  c.loop-w-test.true,
  restoring_long c.args.block.now c.loop-w.w _ _ c.loop-w.invariant c.loop-w-test.true (omega arith) c.receive_word.ensures (omega arith),
  restoring_below c.args.block.now c.loop-w.w _ _ c.loop-w.invariant c.loop-w-test.true (omega arith) c.receive_word.ensures (omega arith),
)

pub loop-w-preserved : goal.loop-w-preserved
loop-w-preserved c =
    restoring_next c.args.block.now c.loop-w.w _ _ c.loop-w.invariant c.loop-w-test.true (omega arith) c.receive_word.ensures (omega arith) _ _ refl
    c.correct_word.auto.word _ c.correct_word.ensures (ap is_some c.in_ok-correct_word.was)

pub returns-in_err-correct_word : goal.returns-in_err-correct_word
returns-in_err-correct_word c =
    let none : c.from_residual.result ≡ None = search rules in
    rw none (restoring_not c.args.block.now c.loop-w.w _ _ c.loop-w.invariant c.loop-w-test.true (omega arith) c.receive_word.ensures (omega arith) _ _ refl
    c.correct_word.auto.word _ c.correct_word.ensures (ap is_some c.in_err-correct_word.was))

pub returns : goal.returns
returns c = search (rules, restoring_end)
