use Rattle.fields.proofs.Places.Filling.{Filled}
use Rattle.inner_words.specs.Steps.ParityMatrix.{parity_matrix, four_sums, parity_sum}
use Rattle.inner_words.proofs.parity.from_residues.Given as goal

abbrev pub invariant-loop-q : goal.invariant-loop-q
invariant-loop-q l = Filled 88 (parity_sum (four_sums l.residues) parity_matrix) l.q l.place-items
