use Rattle.std.proofs.Common.{◌≡◌}
use Rattle.lanes.specs.Steps.Sliced.{or_to}
use Rattle.inner_words.specs.Steps.InnerResidues.{sum_at}
use Rattle.inner_words.proofs.residues.wrong_sums.Given as goal

abbrev pub invariant-loop-i : goal.invariant-loop-i
invariant-loop-i l = l.x ≡ or_to l.i (sum_at l.residues l.added)
