-- The tables by which a word is divided by the generator, five bits of the leading coefficient at a time; and the remainder of a word.
use Rattle.std.specs.Prelude.{List, ℕ, suc, ◌+◌, ◌-◌, ◌*◌, ◌/◌, ◌%◌, length, take}
use Rattle.fields.specs.Lists.{tabulate}
use Rattle.fields.specs.Elements.{xor, times_a}
use Rattle.fields.specs.Places.{at}
use Rattle.words.specs.OuterCode.{generator, outer_parity}

-- sixteen symbols for each digit k below 32: unit times k times the generator, without the leading coefficient
unfoldable pub multiples : ℕ → List ℕ
multiples unit = tabulate 512 (λ n. times_a (unit * (n / 16)) (at generator (suc (n % 16))))

-- the remainder of a word after division by the generator: its last sixteen symbols and the parity of the others, added
unfoldable pub outer_remainder : List ℕ → List ℕ
outer_remainder w = tabulate 16 (λ i. xor (at (outer_parity (take (length w - 16) w)) i) (at w (length w - 16 + i)))
