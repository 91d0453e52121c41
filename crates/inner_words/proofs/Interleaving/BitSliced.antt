-- The 64 inner words of a frame, bit-sliced: the bits of numbers. Assumes nothing.
use mathlib.Core.Path.{◌≡◌, refl, ap, ◌∙◌}
use mathlib.Core.Bool.{Bool, true, false, ◌&&◌, cond}
use mathlib.Core.List.{List}
use Prim.Native.Nat.{ℕ, zero, suc, ◌+◌, ◌-◌, ◌*◌, ◌/◌, ◌%◌, ◌^◌, ◌<◌}
use native.Mathlib.Nat.{le_refl}
use native.Mathlib.Omega.{arith}
use lib.Bits.{bit_and, bit_or, and_shr, and_mod, or_shr, or_mod, or_lt}
use lib.Dec.{eqb, lit<}
use lib.Pow.{pow_pos}
use Rattle.fields.specs.Elements.{scale}
use Rattle.fields.specs.Places.{at, every}
use Rattle.fields.proofs.Lists.{tabulate_at, tabulate_lt}
use Rattle.lanes.specs.Steps.Sliced.{or_to}
use Rattle.words.specs.Bits.{bit_of, number_of, bit_at}
use Rattle.words.specs.InnerCode.{inner_remainder, inner_parity}
use Rattle.words.specs.InnerWords.{inner_data}
use Rattle.words.proofs.Bits.Numbers.{bit_of_lt, bit_of_zero, bit_of_number}
use Rattle.words.proofs.Bits.Bytes.{bit_at_lt}
use Rattle.inner_words.specs.Steps.BitSliced.{place_at, parity_places}

-- ---- bit k of a number

bits_product : (x y : ℕ) → x < 2 → y < 2 → bit_and x y ≡ scale x y
unfolding scale
bits_product zero y hx hy = refl
bits_product (suc zero) zero hx hy = refl
bits_product (suc zero) (suc zero) hx hy = refl
bits_product (suc zero) (suc (suc y)) hx hy = absurd (omega arith)
bits_product (suc (suc x)) y hx hy = absurd (omega arith)

pub bit_product : (n k x y : ℕ) → bit_of n (bit_and x y) k ≡ scale (bit_of n x k) (bit_of n y k)
unfolding bit_of
bit_product n k x y =
    let e = n - suc k in
    ap (λ (z : ℕ). z % 2) (and_shr x y e) ∙ and_mod (x / 2 ^ e) (y / 2 ^ e) 1 ∙ bits_product (x / 2 ^ e % 2) (y / 2 ^ e % 2) (omega arith) (omega arith)

-- a bit of `or_to` is 0 just where it is 0 in each number
bits_or : (t : Bool) (y : ℕ) → y < 2 → bit_or (cond t 0 1) y ≡ cond (t && eqb y 0) 0 1
bits_or true zero h = refl
bits_or true (suc zero) h = refl
bits_or false zero h = refl
bits_or false (suc zero) h = refl
bits_or t (suc (suc y)) h = absurd (omega arith)

pub bit_or_lem : (n k x y : ℕ) → bit_of n (bit_or x y) k ≡ bit_or (bit_of n x k) (bit_of n y k)
unfolding bit_of
bit_or_lem n k x y = let e = n - suc k in ap (λ (z : ℕ). z % 2) (or_shr x y e) ∙ or_mod (x / 2 ^ e) (y / 2 ^ e) 1

pub or_to_bit : (n k m : ℕ) (f : ℕ → ℕ) → bit_of n (or_to m f) k ≡ cond (every m (λ i. eqb (bit_of n (f i) k) 0)) 0 1
unfolding or_to every
or_to_bit n k zero f = bit_of_zero n k
or_to_bit n k (suc m) f =
    bit_or_lem n k (or_to m f) (f m) ∙ ap (λ (x : ℕ). bit_or x (bit_of n (f m) k)) (or_to_bit n k m f)
    ∙ bits_or (every m (λ i. eqb (bit_of n (f i) k) 0)) (bit_of n (f m) k) (bit_of_lt n (f m) k)

pub or_to_lt : (n m : ℕ) (f : ℕ → ℕ) → ((i : ℕ) → i < m → f i < 2 ^ n) → or_to m f < 2 ^ n
unfolding or_to
or_to_lt n zero f h = pow_pos n
or_to_lt n (suc m) f h = or_lt n (or_to m f) (f m) (or_to_lt n m f (λ i l. h i (omega arith))) (h m (le_refl (suc m)))

-- all ones: what a bit is in one place it is in each
pub all_ones : 2 ^ 64 - 1 ≡ number_of 64 (λ i. 1)
unfolding number_of
all_ones = refl

module _ (bytes : List ℕ) where
  pub place_bit : (p k : ℕ) → k < 64 → bit_of 64 (place_at bytes p) k ≡ bit_at bytes (64 * p + k)
  unfolding place_at
  place_bit p k l = bit_of_number (λ k. bit_at bytes (64 * p + k)) (λ k. bit_at_lt bytes (64 * p + k)) 64 k l

  -- the parity bits of inner word k
  pub places_bits : (k : ℕ) → k < 64 → (i : ℕ) → i < 88 → bit_of 64 (at (parity_places bytes) i) k ≡ at (inner_parity (inner_data (bit_at bytes) k)) i
  unfolding parity_places inner_parity
  places_bits k l i h =
      ap (λ (x : ℕ). bit_of 64 x k) (tabulate_at 88 _ i 0 h)
      ∙ bit_of_number (λ k. at (inner_parity (inner_data (bit_at bytes) k)) i) (λ k. tabulate_lt 2 88 _ (lit< tt) (bit_of_lt 88 (inner_remainder (inner_data (bit_at bytes) k))) i) 64 k l
