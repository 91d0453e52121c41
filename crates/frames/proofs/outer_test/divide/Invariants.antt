use Prim.Native.Nat.{◌+◌, ◌*◌, ◌%◌}
use Rattle.words.specs.Steps.SixSymbols.{Packs}
use Rattle.words.specs.Bits.{bit_at}
use Rattle.frames.specs.Steps.Received.{divided_to}
use Rattle.frames.proofs.outer_test.divide.Given as goal

abbrev pub invariant-loop-step : goal.invariant-loop-step
invariant-loop-step l = Packs l.p.high l.p.middle l.p.low (divided_to (bit_at l.block) l.w (l.end % 6 + 6 * l.step))
