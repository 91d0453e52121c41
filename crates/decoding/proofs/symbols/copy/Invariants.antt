use Rattle.std.proofs.Common.{◌≡◌, take}
use Rattle.decoding.proofs.symbols.copy.Given as goal

abbrev pub invariant-loop-i : goal.invariant-loop-i
invariant-loop-i g l = take l.i l.out ≡ take l.i l.word
