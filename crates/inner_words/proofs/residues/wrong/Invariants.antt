use Rattle.std.proofs.Common.{◌≡◌}
use Rattle.fields.specs.Places.{at}
use Rattle.lanes.specs.Steps.Sliced.{or_to}
use Rattle.inner_words.proofs.residues.wrong.Given as goal

abbrev pub invariant-loop-residue : goal.invariant-loop-residue
invariant-loop-residue l = l.x ≡ or_to l.residue-index (at l.residues)
