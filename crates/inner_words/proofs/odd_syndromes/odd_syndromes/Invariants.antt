use Rattle.fields.specs.Elements.{powers_b}
use Rattle.fields.proofs.Places.Filling.{Filled}
use Rattle.inner_words.specs.Steps.InnerResidues.{odd_syndrome}
use Rattle.inner_words.proofs.odd_syndromes.odd_syndromes.Given as goal

abbrev pub invariant-loop-j : goal.invariant-loop-j
invariant-loop-j l = Filled 8 (odd_syndrome powers_b l.residues l.k) l.j l.value-items
