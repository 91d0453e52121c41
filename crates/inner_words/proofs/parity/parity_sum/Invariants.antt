use Rattle.std.proofs.Common.{◌≡◌, ◌*◌}
use Rattle.decoding.specs.Steps.Decoder.{xor_to}
use Rattle.inner_words.proofs.ParityPlaces.ParitySteps.{place_term}
use Rattle.inner_words.proofs.parity.parity_sum.Given as goal

abbrev pub invariant-loop-m : goal.invariant-loop-m
invariant-loop-m l = l.x ≡ xor_to (2 * l.m) (place_term l.sums l.matrix l.q)
