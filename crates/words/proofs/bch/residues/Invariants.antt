use mathlib.Core.Path.{◌≡◌}
use Rattle.fields.proofs.Places.Filling.{Filled}
use Rattle.words.specs.InnerCode.{divisor}
use Rattle.words.specs.Steps.Residues.{residue}
use Rattle.words.proofs.bch.residues.Given as goal

abbrev pub invariant-loop-k : goal.invariant-loop-k
invariant-loop-k l = (l.d ≡ divisor) × Filled 16 (residue divisor) l.k l.t
