use Prim.Native.Nat.{◌+◌}
use Rattle.fields.proofs.Places.Filling.{Filled}
use Rattle.words.specs.Bits.{bit_at}
use Rattle.frames.specs.Correction.{received_symbol}
use Rattle.frames.proofs.outer_words.receive_last.Given as goal

abbrev pub invariant-loop-s : goal.invariant-loop-s
invariant-loop-s l = Filled 20 (λ s. received_symbol (bit_at l.block) (12476 + s)) l.s l.last
