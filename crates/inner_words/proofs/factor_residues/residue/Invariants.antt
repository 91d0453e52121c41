use Rattle.std.proofs.Common.{◌≡◌, ℕ, ◌+◌, ◌*◌}
use Rattle.fields.specs.Places.{at}
use Rattle.lanes.specs.Steps.Sliced.{cells}
use Rattle.words.specs.InnerCode.{factors}
use Rattle.inner_words.specs.Steps.InnerResidues.{residue_of}
use Rattle.inner_words.proofs.factor_residues.residue.Given as goal

abbrev pub invariant-loop-p : goal.invariant-loop-p
invariant-loop-p g l = (j : ℕ) → at factors j ≡ g.row.FACTOR → cells l.s ≡ residue_of j l.bytes l.p

abbrev pub invariant-loop-k : goal.invariant-loop-k
invariant-loop-k g l = (j : ℕ) → at factors j ≡ g.row.FACTOR → cells l.s ≡ residue_of j l.bytes (5 + 11 * l.i + l.k)

abbrev pub invariant-loop-i : goal.invariant-loop-i
invariant-loop-i g l = (j : ℕ) → at factors j ≡ g.row.FACTOR → cells l.s ≡ residue_of j l.bytes (5 + 11 * l.i)
