-- The residues of the 64 inner words modulo the eight factors of the divisor, bit-sliced: bit k of a number, the highest of 64 first, belongs to inner
-- word k.
use Rattle.std.specs.Prelude.{◌≡◌, Bool, List, ◌∷◌, ℕ, ◌+◌, ◌*◌, ◌/◌, ◌%◌, ◌^◌, ◌<◌, eqb}
use Rattle.fields.specs.Lists.{tabulate}
use Rattle.fields.specs.Elements.{xor, scale}
use Rattle.fields.specs.Steps.ByTables.{table_power}
use Rattle.fields.specs.Places.{at, every}
use Rattle.decoding.specs.Steps.Decoder.{xor_to}
use Rattle.lanes.specs.Steps.Sliced.{turned}
use Rattle.words.specs.Bits.{bit_of, number_of, bit_at}
use Rattle.words.specs.InnerCode.{factors, remainder}

-- the coefficient of z^i in the polynomial r
abbrev pub coefficient : ℕ → ℕ → ℕ
coefficient i r = r / 2 ^ i % 2

-- the polynomials r 0, .. r 63 of degree below m, bit-sliced: their coefficients, the lowest power first
unfoldable pub bit_sliced : ℕ → (ℕ → ℕ) → List ℕ
bit_sliced m r = tabulate m (λ i. number_of 64 (λ k. coefficient i (r k)))

-- the residue of the first n places of inner word k modulo factor j; and those of all inner words modulo all eight factors, eleven numbers each
unfoldable pub word_residue : ℕ → List ℕ → ℕ → ℕ → ℕ
word_residue j bytes n k = remainder 11 (at factors j) (λ p. bit_at bytes (64 * p + k)) n

unfoldable pub residues_of : List ℕ → ℕ → List ℕ
residues_of bytes n = tabulate 88 (λ c. number_of 64 (λ k. coefficient (c % 11) (word_residue (c / 11) bytes n k)))

-- ---- the order of the steps

-- eight bytes with the first the lowest: bit k is the one that is bit `turned k` if the first is the highest
unfoldable pub swapped : ℕ → ℕ
swapped x = number_of 64 (λ k. bit_of 64 x (turned k))

-- place p of every inner word in that order, and the residues modulo factor j
unfoldable pub loaded_at : List ℕ → ℕ → ℕ
loaded_at bytes p = number_of 64 (λ k. bit_at bytes (64 * p + turned k))

unfoldable pub residue_of : ℕ → List ℕ → ℕ → List ℕ
residue_of j bytes n = bit_sliced 11 (λ k. word_residue j bytes n (turned k))

-- in that order, too: 1 where two blocks differ in place p + q
unfoldable pub difference_from : List ℕ → List ℕ → ℕ → ℕ → ℕ
difference_from block frame p q = xor (loaded_at block (p + q)) (loaded_at frame (p + q))

-- the residues of inner word k of a block stand among those of all
pub record WordResidues (residues : List ℕ) (k : ℕ) (block : List ℕ) : Type 0 where
  pub each : (c : ℕ) → c < 88 → bit_of 64 (at residues c) k ≡ coefficient (c % 11) (word_residue (c / 11) block 2040 k)

-- number c of two lists of residues, added
unfoldable pub sum_at : List ℕ → List ℕ → ℕ → ℕ
sum_at xs ys c = xor (at xs c) (at ys c)

-- odd syndrome j of inner word k, its value at a^(2j+1), from its residue modulo factor j: the sum of a^((2j+1) i) over its coefficients i that are 1
unfoldable pub odd_syndrome : List ℕ → List ℕ → ℕ → ℕ → ℕ
odd_syndrome es residues k j = xor_to 11 (λ i. bit_of 64 (at residues (11 * j + i)) k * table_power es ((2 * j + 1) * i))

-- inner word k has the odd syndromes of a single wrong place, whose locator is a^e: a^e, a^(3 e), .. a^(15 e)
unfoldable pub is_single : List ℕ → List ℕ → ℕ → ℕ → Bool
is_single es residues k e = every 8 (λ j. eqb (odd_syndrome es residues k j) (table_power es ((2 * j + 1) * e)))

-- one place x more: the coefficients move up a power, x comes in below, and where z^11 comes up the polynomial p is taken away
unfoldable pub advanced : ℕ → List ℕ → ℕ → List ℕ
advanced p s x = tabulate 11 (λ i. xor (scale (coefficient i p) (at s 10)) (at (x ∷ s) i))
