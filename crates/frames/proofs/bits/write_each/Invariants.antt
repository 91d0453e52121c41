use Rattle.std.proofs.Common.{length}
use Rattle.fields.proofs.Places.Filling.{Filled}
use Rattle.words.specs.Bits.{bit_at}
use Rattle.frames.proofs.Numbers.Groups.{number_from}
use Rattle.frames.proofs.bits.write_each.Given as goal

abbrev pub invariant-loop-s : goal.invariant-loop-s
invariant-loop-s l = Filled (length l.initial.out) (number_from 10 (bit_at l.bytes) l.i) l.s l.out
