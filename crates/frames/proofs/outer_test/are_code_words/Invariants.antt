use mathlib.Core.Bool.{true}
use mathlib.Core.Path.{◌≡◌}
use Prim.Native.Nat.{◌*◌}
use Rattle.words.specs.Bits.{bit_at}
use Rattle.frames.proofs.OuterSymbols.Tested.{outer_up_to}
use Rattle.frames.proofs.outer_test.are_code_words.Given as goal

abbrev pub invariant-loop-pair : goal.invariant-loop-pair
invariant-loop-pair l = outer_up_to (bit_at l.block) (2 * l.pair) ≡ true
