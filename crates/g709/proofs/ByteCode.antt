-- The code of the rows: that of field C with sixteen roots, and what pins it down. Assumes nothing.
use mathlib.Core.Path.{◌≡◌, refl}
use mathlib.Core.Bool.{true}
use mathlib.Core.List.{List, [], ◌∷◌}
use Prim.Native.Nat.{ℕ, ◌<◌}
use lib.Dec.{lit≤, lit<}
use Rattle.fields.specs.Lists.{tabulate}
use Rattle.fields.specs.Elements.{xor, scale, doubled, times, times_from, power}
use Rattle.fields.specs.Places.{at}
use Rattle.fields.proofs.Instances.{field_c}
use Rattle.words.specs.ReedSolomon.{with_root, generator_of}
use Rattle.words.specs.Nearest.{Decodes}
use Rattle.words.specs.Codes.{ReedSolomon}
use Rattle.words.proofs.Codes.ReedSolomon.{code_is, reed_solomon}
use Rattle.g709.specs.Rows.{is_byte_word}

pub code_c : ReedSolomon 8 285 0 16
code_c = reed_solomon 8 285 0 16 field_c

pub byte_nearest : Decodes is_byte_word 256 8 255
byte_nearest = code_c.code_nearest 8 255 (lit≤ tt) (lit< tt)

pub byte_lt : (c : List ℕ) → is_byte_word c ≡ true → (i : ℕ) → at c i < 256
byte_lt c h = (code_is 8 285 0 16 c h).symbols

-- the coefficients that the division has as literals
pub generator_c : generator_of 8 285 0 16 ≡ 1 ∷ 59 ∷ 13 ∷ 104 ∷ 189 ∷ 68 ∷ 209 ∷ 30 ∷ 8 ∷ 163 ∷ 65 ∷ 41 ∷ 229 ∷ 98 ∷ 50 ∷ 36 ∷ 59 ∷ []
unfolding generator_of with_root tabulate xor scale doubled times times_from power
generator_c = refl
