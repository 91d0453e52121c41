use Prim.Native.Nat.{◌*◌}
use Rattle.std.proofs.Common.{length}
use Rattle.fields.specs.Places.{at}
use Rattle.fields.proofs.Places.Filling.{Filled}
use Rattle.frames.specs.Steps.Symbols.{symbol_bit}
use Rattle.frames.proofs.Numbers.Groups.{number_from}
use Rattle.frames.proofs.bits.write_bytes.Given as goal

abbrev pub invariant-loop-q : goal.invariant-loop-q
invariant-loop-q l = Filled (length l.initial.out) (number_from 8 (symbol_bit (at l.symbols)) 0) (5 * l.q) l.out
