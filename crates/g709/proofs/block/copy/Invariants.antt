use lib.ListN.{length, get_or}
use Rattle.fields.proofs.Places.Filling.{Filled}
use Rattle.g709.proofs.block.copy.Given as goal

abbrev pub invariant-loop-i : goal.invariant-loop-i
invariant-loop-i l = Filled (length l.bytes) (λ i. get_or l.bytes i 0) l.i l.out
