use Prim.Native.Nat.{◌*◌}
use Rattle.fields.proofs.Places.Filling.{Filled}
use Rattle.words.specs.Bits.{bit_at}
use Rattle.frames.specs.Correction.{received_symbol}
use Rattle.frames.proofs.outer_words.receive.Given as goal

abbrev pub invariant-loop-w : goal.invariant-loop-w
invariant-loop-w l = Filled 12496 (received_symbol (bit_at l.block)) (781 * l.w) l.outer
