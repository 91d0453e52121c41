use mathlib.Core.Path.{◌≡◌}
use Rattle.words.proofs.Steps.FourPlaces.{residue_so_far}
use Rattle.words.proofs.bch.residue.Given as goal

abbrev pub invariant-loop-i : goal.invariant-loop-i
invariant-loop-i l = l.v ≡ residue_so_far l.k l._i
