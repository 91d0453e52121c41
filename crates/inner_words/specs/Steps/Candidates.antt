-- Candidates for all inner words at once: 2,040 numbers, one for each place, whose bit k, the highest of 64 first, is 1 where inner word k is to be inverted.
use Rattle.std.specs.Prelude.{◌≡◌, cond, List, ℕ, suc, ◌/◌, ◌%◌, ◌<◌, ltb, length}
use Rattle.std.specs.Int.Bits.{bit_and, bit_or}
use Rattle.fields.specs.Elements.{xor}
use Rattle.fields.specs.Places.{at, sum_to}
use Rattle.lanes.specs.Steps.Sliced.{or_to}
use Rattle.words.specs.Bits.{bit_of, number_of, bit_at, bytes_of}
use Rattle.inner_words.specs.Steps.InnerResidues.{residues_of, sum_at}

-- the places of the candidates are inverted in the inner words that the mask has a 1 for
pub record Flipped (flips : List ℕ) (mask : ℕ) (before after : List ℕ) : Type 0 where
  pub long : length after ≡ length before
  pub bits : (i : ℕ) → i < 130560 → bit_at after i ≡ xor (bit_at before i) (bit_of 64 (bit_and (at flips (i / 64)) mask) (i % 64))

-- in how many places inner word k is to be inverted
unfoldable pub flips_in : List ℕ → ℕ → ℕ
flips_in flips k = sum_to 2040 (λ p. bit_of 64 (at flips p) k)

-- 1 for a number above j
unfoldable pub above : ℕ → ℕ → ℕ
above j n = cond (ltb j n) 1 0

-- one place more: number 0 gets the inner words of x, number j + 1 those of them that number j has
pub record Raised (s : List ℕ) (x : ℕ) (r : List ℕ) : Type 0 where
  pub first : at r 0 ≡ bit_or (at s 0) x
  pub later : (j : ℕ) → j < 8 → at r (suc j) ≡ bit_or (at s (suc j)) (bit_and (at s j) x)

-- 1 where more than eight places of an inner word are to be inverted
unfoldable pub too_many : List ℕ → ℕ
too_many flips = number_of 64 (λ k. above 8 (flips_in flips k))

-- the candidates as a block: a 1 in each place that is to be inverted
unfoldable pub flip_bit : List ℕ → ℕ → ℕ
flip_bit flips i = bit_of 64 (at flips (i / 64)) (i % 64)

pub record AsBlock (flips block : List ℕ) : Type 0 where
  pub long : length block ≡ 16320
  pub bits : (i : ℕ) → i < 130560 → bit_at block i ≡ flip_bit flips i

-- 1 where a residue of the inner word plus that of its places is not zero, or more than eight places are to be inverted
unfoldable pub failing : List ℕ → List ℕ → ℕ
failing residues flips = bit_or (or_to 88 (sum_at residues (residues_of (bytes_of 16320 (flip_bit flips)) 2040))) (too_many flips)
