use Prim.Native.Nat.{◌+◌}
use lib.ListN.{length}
use Rattle.fields.proofs.Places.Filling.{Filled}
use Rattle.frames.specs.Steps.Symbols.{payload_byte}
use Rattle.frames.proofs.outer_words.extract_each.Given as goal

abbrev pub invariant-loop-m : goal.invariant-loop-m
invariant-loop-m l = Filled (length l.initial.out) (λ m. payload_byte l.outer (l.k + m)) l.m l.out
