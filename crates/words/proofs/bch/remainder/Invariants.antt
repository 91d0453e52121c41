use Prim.Native.Nat.{◌*◌}
use mathlib.Core.Path.{◌≡◌}
use Rattle.words.specs.Bits.{bit_at}
use Rattle.words.specs.InnerCode.{divisor, remainder}
use Rattle.words.proofs.bch.remainder.Given as goal

abbrev pub invariant-loop-i : goal.invariant-loop-i
invariant-loop-i l = l.v ≡ remainder 88 divisor (bit_at l.bytes) (4 * l.i)
