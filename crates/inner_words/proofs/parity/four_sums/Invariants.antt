use Rattle.std.proofs.Common.{◌*◌}
use Rattle.fields.proofs.Places.Filling.{Filled}
use Rattle.inner_words.proofs.ParityPlaces.ParitySteps.{sum_at}
use Rattle.inner_words.proofs.parity.four_sums.Given as goal

abbrev pub invariant-loop-g : goal.invariant-loop-g
invariant-loop-g l = Filled 352 (sum_at l.numbers) (16 * l.g) l.out
