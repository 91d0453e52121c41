-- The table for a division of inner words four places a step.
use Rattle.std.specs.Prelude.{List, ℕ, ◌*◌, ◌^◌}
use Rattle.fields.specs.Lists.{tabulate}
use Rattle.words.specs.Bits.{bit_of}
use Rattle.words.specs.InnerCode.{remainder}

-- the remainder of k z^88 after division by p, where k is a polynomial of degree below 4; and those of all sixteen
unfoldable pub residue : ℕ → ℕ → ℕ
residue p k = remainder 88 p (bit_of 92 (k * 2 ^ 88)) 92

unfoldable pub residues : ℕ → List ℕ
residues p = tabulate 16 (residue p)
