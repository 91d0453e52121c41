use Prim.Native.Nat.{◌+◌, ◌*◌}
use Rattle.words.specs.Steps.SixSymbols.{Packs}
use Rattle.words.specs.Bits.{bit_at}
use Rattle.frames.specs.Steps.Received.{divided_to}
use Rattle.frames.proofs.outer_test.divide_two.Given as goal

abbrev pub invariant-loop-step : goal.invariant-loop-step
invariant-loop-step l = Packs l.first.high l.first.middle l.first.low (divided_to (bit_at l.block) l.w (3 + 6 * l.step)) × Packs l.second.high l.second.middle l.second.low (divided_to (bit_at l.block) (l.w + 1) (3 + 6 * l.step))
