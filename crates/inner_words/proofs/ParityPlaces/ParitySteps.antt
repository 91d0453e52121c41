-- What the functions compute that make parity places of residues. Assumes nothing.
use mathlib.Core.Path.{◌≡◌, refl, ap, ap₂, ◌∙◌}
use mathlib.Core.List.{List, [], ◌∷◌}
use Prim.Native.Nat.{ℕ, suc, ◌+◌, ◌-◌, ◌*◌, ◌/◌, ◌%◌, ◌≤◌, ◌<◌}
use native.Mathlib.Nat.{add-zero}
use native.Mathlib.Omega.{arith}
use borrow.Rule.Slice.PartMut.{put_mid}
use lib.Bits.{bit_xor}
use lib.ListN.{length, get_or, set, replicate, length-replicate}
use mir.Syntax.{w8}
use mir.Val.{Fits}
use Rattle.fields.specs.Elements.{xor, scale}
use Rattle.fields.specs.Lists.{tabulate}
use Rattle.fields.specs.Places.{at}
use Rattle.fields.proofs.Lists.{tabulate_at, tabulate_length}
use Rattle.fields.proofs.Xor.{xor_zero_l, xor_zero_r}
use Rattle.fields.proofs.Places.Filling.{Filled, filled_start, filled_next, filled_end}
use Rattle.decoding.specs.Steps.Decoder.{xor_to}
use Rattle.words.specs.Bits.{bit_of, number_of, bit_at}
use Rattle.words.proofs.Bits.Bytes.{places_read}
use Rattle.inner_words.specs.Steps.ParityMatrix.{parity_matrix, four_sum, four_sums, parity_sum, parity_sums}
use Rattle.inner_words.proofs.Interleaving.EightBytes.{placed_mid}
use Rattle.inner_words.proofs.Remainders.ResidueSteps.{filled_placed}

-- ---- sums of four

pub sixteen_sums : (a b c d : ℕ) →
    0 ∷ d ∷ c ∷ xor c d ∷ b ∷ xor b d ∷ xor b c ∷ xor (xor b c) d ∷ a ∷ xor a d ∷ xor a c ∷ xor (xor a c) d ∷ xor a b
    ∷ xor (xor a b) d ∷ xor (xor a b) c ∷ xor (xor (xor a b) c) d ∷ [] ≡ tabulate 16 (four_sum (a ∷ b ∷ c ∷ d ∷ []) 0)
unfolding tabulate four_sum xor_to scale bit_of
sixteen_sums a b c d = simp (xor_zero_l, xor_zero_r)

module _ (xs : List ℕ) where
  -- number i of all sums
  unfoldable pub sum_at : ℕ → ℕ
  sum_at i = four_sum xs (i / 16) (i % 16)

  four_same : (g v : ℕ) → four_sum (get_or xs (4 * g) 0 ∷ get_or xs (4 * g + 1) 0 ∷ get_or xs (4 * g + 2) 0 ∷ get_or xs (4 * g + 3) 0 ∷ []) 0 v ≡ four_sum xs g v
  unfolding four_sum xor_to
  four_same g v = rw (add-zero (4 * g))

  pub sums_start : Filled 352 sum_at (16 * 0) (replicate 352 0)
  sums_start = filled_start (length-replicate {A = ℕ} 352 0)

  pub sums_next : (g : ℕ) (ys zs before : List ℕ) → Filled 352 sum_at (16 * g) before → g < 22 → zs ≡ ys →
      ys ≡ tabulate 16 (four_sum (get_or xs (4 * g) 0 ∷ get_or xs (4 * g + 1) 0 ∷ get_or xs (4 * g + 2) 0 ∷ get_or xs (4 * g + 3) 0 ∷ []) 0) →
      Filled 352 sum_at (16 * (g + 1)) (put_mid (16 * g) (16 * (g + 1) - 16 * g) before zs)
  unfolding sum_at
  sums_next g ys zs before f h ez ey =
      let e : 16 * g + length ys ≡ 16 * (g + 1) = omega (arith, long) in
      let p = placed_mid (16 * g) (16 * (g + 1) - 16 * g) ys before (omega (arith, long)) (omega (arith, f.long)) in
      rw ez (rw e at (filled_placed f p (omega (arith, long)) number))
    where
      long : length ys ≡ 16
      long = ap length ey ∙ tabulate_length 16 _

      number : (k : ℕ) → k < length ys → at ys k ≡ four_sum xs ((16 * g + k) / 16) ((16 * g + k) % 16)
      number k l =
          let q : (16 * g + k) / 16 ≡ g = omega (arith, long) in
          let r : (16 * g + k) % 16 ≡ k = omega (arith, long) in
          rw (q, r) (ap (λ (y : List ℕ). at y k) ey ∙ tabulate_at 16 _ k 0 (rw long at l) ∙ four_same g k)

  pub sums_end : (g : ℕ) (out : List ℕ) → Filled 352 sum_at (16 * g) out → 22 ≤ g → out ≡ four_sums xs
  unfolding sum_at four_sums
  sums_end g out f h = filled_end f (omega arith)

-- ---- a parity place

module _ (sums matrix : List ℕ) (q : ℕ) where
  unfoldable pub place_term : ℕ → ℕ
  place_term g = at sums (16 * g + number_of 4 (λ t. bit_at matrix (88 * q + 4 * g + t)))

  pub place_none : 0 ≡ xor_to (2 * 0) place_term
  unfolding xor_to
  place_none = refl

  module _ (m : ℕ) (small : (i : ℕ) → Fits w8 (get_or matrix i 0)) where
    first : number_of 4 (λ t. bit_at matrix (88 * q + 4 * (2 * m) + t)) ≡ get_or matrix (11 * q + m) 0 / 16
    first =
        let i = 88 * q + 4 * (2 * m) in
        let d : i / 8 ≡ 11 * q + m = omega arith in
        let r : i % 8 ≡ 0 = omega arith in
        places_read matrix i 4 (omega arith) ∙ rw (d, r) (omega (arith, small (11 * q + m)))

    second : number_of 4 (λ t. bit_at matrix (88 * q + 4 * suc (2 * m) + t)) ≡ get_or matrix (11 * q + m) 0 % 16
    second =
        let i = 88 * q + 4 * suc (2 * m) in
        let d : i / 8 ≡ 11 * q + m = omega arith in
        let r : i % 8 ≡ 4 = omega arith in
        places_read matrix i 4 (omega arith) ∙ rw (d, r) (omega arith)

    pub place_next : (x f l : ℕ) → x ≡ xor_to (2 * m) place_term → f ≡ get_or matrix (11 * q + m) 0 / 16 → l ≡ get_or matrix (11 * q + m) 0 % 16 →
        bit_xor (bit_xor x (get_or sums (32 * m + f) 0)) (get_or sums (32 * m + 16 + l) 0) ≡ xor_to (2 * (m + 1)) place_term
    unfolding xor_to place_term xor
    place_next x f l ex ef el =
        let n : 2 * (m + 1) ≡ suc (suc (2 * m)) = omega arith in
        let i : 32 * m + f ≡ 16 * (2 * m) + number_of 4 (λ t. bit_at matrix (88 * q + 4 * (2 * m) + t)) = omega (arith, ef, first) in
        let k : 32 * m + 16 + l ≡ 16 * suc (2 * m) + number_of 4 (λ t. bit_at matrix (88 * q + 4 * suc (2 * m) + t)) = omega (arith, el, second) in
        rw (n, i, k, ex)

  pub place_end : (m x : ℕ) → x ≡ xor_to (2 * m) place_term → m ≤ 11 → 11 ≤ m → x ≡ parity_sum sums matrix q
  unfolding place_term parity_sum
  place_end m x e l h = let n : 2 * m ≡ 22 = omega arith in rw n at e

-- ---- all parity places

module _ (xs sums matrix : List ℕ) (es : sums ≡ four_sums xs) (er : matrix ≡ parity_matrix) where
  pub places_next : (q x : ℕ) (out : List ℕ) → Filled 88 (parity_sum (four_sums xs) parity_matrix) q out → q < 88 → x ≡ parity_sum sums matrix q →
      Filled 88 (parity_sum (four_sums xs) parity_matrix) (q + 1) (set out q x)
  places_next q x out f h e = filled_next f h (e ∙ ap₂ (λ (s r : List ℕ). parity_sum s r q) es er)

pub places_end : (xs : List ℕ) (q : ℕ) (out : List ℕ) → Filled 88 (parity_sum (four_sums xs) parity_matrix) q out → 88 ≤ q → out ≡ parity_sums xs
unfolding parity_sums
places_end xs q out f h = filled_end f h
