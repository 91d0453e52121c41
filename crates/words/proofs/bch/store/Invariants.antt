use Prim.Native.Nat.{◌+◌, ◌*◌}
use Rattle.fields.proofs.Places.Filling.{Filled}
use Rattle.words.specs.Bits.{number_of, bit_of}
use Rattle.words.proofs.bch.store.Given as goal

abbrev pub invariant-loop-k : goal.invariant-loop-k
invariant-loop-k l = Filled 11 (λ i. number_of 8 (λ j. bit_of 88 l.v (8 * i + j))) l.k l.out
