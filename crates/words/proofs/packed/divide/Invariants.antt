use Prim.Native.Nat.{◌+◌, ◌*◌, ◌%◌}
use lib.ListN.{length}
use mathlib.Core.Path.{◌≡◌}
use Rattle.words.specs.Steps.SixSymbols.{Packs}
use Rattle.words.proofs.Steps.Loops.{divided_up_to}
use Rattle.words.proofs.packed.divide.Given as goal

abbrev pub invariant-loop-k : goal.invariant-loop-k
invariant-loop-k l = (l.first ≡ length l.«data» % 6) × Packs l.p.high l.p.middle l.p.low (divided_up_to l.«data» (l.first + 6 * l.k))
