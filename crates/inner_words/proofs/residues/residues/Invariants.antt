use Rattle.std.proofs.Common.{◌+◌, ◌*◌}
use Rattle.fields.proofs.Places.Filling.{Filled}
use Rattle.inner_words.proofs.Remainders.ResidueSteps.{residue_number}
use Rattle.inner_words.proofs.residues.residues.Given as goal

abbrev pub invariant-loop-c : goal.invariant-loop-c
invariant-loop-c l = Filled 88 (residue_number l.bytes (5 + 11 * l.blocks)) l.c l.number-items
