use Rattle.fields.proofs.Places.Filling.{Filled}
use Rattle.frames.specs.Steps.Symbols.{payload_byte}
use Rattle.frames.proofs.OuterSymbols.Writing.{done_to}
use Rattle.frames.proofs.outer_words.extract.Given as goal

abbrev pub invariant-loop-w : goal.invariant-loop-w
invariant-loop-w l = Filled 15296 (payload_byte l.outer) (done_to l.w) l.out
