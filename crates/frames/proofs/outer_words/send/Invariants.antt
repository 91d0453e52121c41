use Rattle.fields.proofs.Places.Filling.{Filled}
use Rattle.frames.proofs.OuterSymbols.Writing.{sent_byte}
use Rattle.frames.proofs.outer_words.send.Given as goal

abbrev pub invariant-loop-k : goal.invariant-loop-k
invariant-loop-k l = Filled 16320 (sent_byte l.outer) l.k l.out
