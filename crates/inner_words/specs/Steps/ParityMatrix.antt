-- The parity bits of inner words from their residues: bit q is the sum of the coefficients that the matrix has a 1 for.
use Rattle.std.specs.Prelude.{List, [], ◌∷◌, ℕ, ◌+◌, ◌*◌, ◌/◌, ◌%◌, ◌^◌}
use Rattle.fields.specs.Lists.{tabulate}
use Rattle.fields.specs.Elements.{scale, doubled}
use Rattle.fields.specs.Places.{at}
use Rattle.decoding.specs.Steps.Decoder.{xor_to}
use Rattle.words.specs.Bits.{bit_of, number_of, bit_at, bytes_of}
use Rattle.words.specs.InnerCode.{value_of, divisor}

-- z^88 times the polynomial that is 1 modulo factor j and 0 modulo the other seven, modulo the divisor
unfoldable pub shares : List ℕ
shares =
    178274162704297845311508463 ∷ 270644810064686498923269813 ∷ 239816750036753677200781977 ∷ 125417359315196306164193320 ∷ 99127481319942847295808046 ∷ 291250243383185816003011511 ∷ 107821205609313491454181611 ∷ 23786519859613024841697098 ∷ []

-- column c: what the coefficient of z^(c % 11) in residue c / 11 adds to the remainder of the data times z^88
unfoldable pub column : ℕ → ℕ
column c = value_of (doubled 88 divisor) (at shares (c / 11)) 12 (2 ^ (c % 11))

-- for each parity bit q the 88 bits that pick the coefficients whose sum it is, one after the other
unfoldable pub parity_matrix : List ℕ
parity_matrix = bytes_of 968 (λ i. bit_of 88 (column (i % 88)) (i / 88))

-- of the four numbers from 4 g on, the sum of those at which v has a 1, the highest of four bits first; these sums for all g and v
unfoldable pub four_sum : List ℕ → ℕ → ℕ → ℕ
four_sum xs g v = xor_to 4 (λ t. scale (bit_of 4 v t) (at xs (4 * g + t)))

unfoldable pub four_sums : List ℕ → List ℕ
four_sums xs = tabulate 352 (λ i. four_sum xs (i / 16) (i % 16))

-- parity place q, four numbers at a time; and all parity places
unfoldable pub parity_sum : List ℕ → List ℕ → ℕ → ℕ
parity_sum sums matrix q = xor_to 22 (λ g. at sums (16 * g + number_of 4 (λ t. bit_at matrix (88 * q + 4 * g + t))))

unfoldable pub parity_sums : List ℕ → List ℕ
parity_sums xs = tabulate 88 (parity_sum (four_sums xs) parity_matrix)
