use Rattle.frames.proofs.OuterSymbols.Words.{Written}
use Rattle.frames.proofs.outer_words.encode.Given as goal

abbrev pub invariant-loop-w : goal.invariant-loop-w
invariant-loop-w l = Written l.payload l.w l.outer
