use Rattle.fields.specs.Elements.{powers_b}
use Rattle.inner_words.proofs.Passes.WordErrors.{Adding}
use Rattle.inner_words.proofs.odd_syndromes.odd_syndrome.Given as goal

abbrev pub invariant-loop-i : goal.invariant-loop-i
invariant-loop-i l = Adding powers_b l.residues l.k l.j l.i l.v
