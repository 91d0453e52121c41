use Prim.Native.Nat.{◌*◌}
use Rattle.std.proofs.Common.{length}
use Rattle.fields.proofs.Places.Filling.{Filled}
use Rattle.words.specs.Bits.{bit_at}
use Rattle.frames.proofs.Numbers.Groups.{number_from}
use Rattle.frames.proofs.bits.write_from_byte.Given as goal

abbrev pub invariant-loop-q : goal.invariant-loop-q
invariant-loop-q l = Filled (length l.initial.out) (number_from 10 (bit_at l.bytes) 0) (8 * l.q) l.out
