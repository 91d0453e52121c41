use Rattle.words.specs.Bits.{bit_at}
use Rattle.frames.proofs.Correction.OuterPass.{Restoring}
use Rattle.frames.proofs.outer_words.correct.Given as goal

abbrev pub invariant-loop-w : goal.invariant-loop-w
invariant-loop-w l = Restoring (bit_at l.block) l.w l.outer
