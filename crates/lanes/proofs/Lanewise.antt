-- What an operation on bit-sliced elements is for each inner word k: the field's own operation on the elements of that word. Assumes nothing.
use mathlib.Core.Path.{◌≡◌, refl, sym, ap, ap₂, ◌∙◌}
use mathlib.Core.Bool.{true, cond}
use mathlib.Core.List.{List, [], ◌∷◌, ◌++◌}
use Prim.Native.Nat.{ℕ, zero, suc, ◌+◌, ◌-◌, ◌*◌, ◌/◌, ◌%◌, ◌^◌, ◌≤◌, ◌<◌, min, max}
use native.Mathlib.Nat.{pow-suc, zero-div}
use native.Mathlib.Omega.{arith}
use borrow.Author.Tests.{eqb-true}
use lib.Bits.{bit_and, bit_or, and_shr, and_step, or_shr, or_step}
use lib.Dec.{eqb}
use lib.ListN.{length, drop, replicate}
use lib.Pow.{pow_pos, shr-shr}
use Rattle.std.proofs.lemmas.List.{drop_more}
use Rattle.fields.specs.Elements.{xor, scale, doubled, times_from, times}
use Rattle.fields.specs.Lists.{tabulate}
use Rattle.fields.specs.Places.{at, every}
use Rattle.fields.proofs.Lists.{tabulate_is}
use Rattle.fields.proofs.Places.Tests.{every_at}
use Rattle.fields.proofs.Xor.{xor_high, xor_half, xor_bit, xor_zero_l, xor_zero_r, xor_comm, xor_cancel, additive_zero}
use Rattle.fields.proofs.Doubling.{scale_sum, doubled_sum}
use Rattle.fields.proofs.Times.{zero_times}
use Rattle.lanes.specs.declared.Lanes.{Lanes}
use Rattle.lanes.specs.Steps.Sliced.{lane_bit, lane, element}

-- ---- numbers by their lowest bit and the rest

sum_digits : (a b x y : ℕ) → a < 2 → b < 2 → xor (a + 2 * x) (b + 2 * y) ≡ xor a b + 2 * xor x y
sum_digits a b x y ha hb =
    let h : xor (a + 2 * x) (b + 2 * y) / 2 ≡ xor x y = rw xor_half (ap₂ xor (omega arith) (omega arith)) in
    let l : xor (a + 2 * x) (b + 2 * y) % 2 ≡ xor a b = rw xor_bit (ap₂ xor (omega arith) (omega arith)) in
    omega arith

mask_digits : (a b x : ℕ) → a < 2 → b < 2 → min a b + 2 * scale b x ≡ scale b (a + 2 * x)
unfolding scale
mask_digits a zero x ha hb = omega arith
mask_digits a (suc b) x ha hb = omega arith

module _ (m p : ℕ) where
  scale_doubled : (b x : ℕ) → scale b (doubled m p x) ≡ doubled m p (scale b x)
  unfolding scale
  scale_doubled zero x = sym (additive_zero (doubled m p) (doubled_sum m p))
  scale_doubled (suc b) x = refl

  doubled_times_from : (n x y : ℕ) → times_from m p n (doubled m p x) y ≡ doubled m p (times_from m p n x y)
  unfolding times_from
  doubled_times_from zero x y = sym (additive_zero (doubled m p) (doubled_sum m p))
  doubled_times_from (suc n) x y = rw (scale_doubled, doubled_times_from n (doubled m p x), doubled_sum)

  times_digit : (n x b y : ℕ) → b < 2 → times_from m p (suc n) x (b + 2 * y) ≡ xor (doubled m p (times_from m p n x y)) (scale b x)
  unfolding times_from
  times_digit n x b y h =
      let low : (b + 2 * y) % 2 ≡ b = omega arith in
      let high : (b + 2 * y) / 2 ≡ y = omega arith in
      rw (low, high) (ap (xor (scale b x)) (doubled_times_from n x y) ∙ xor_comm _ _)

-- ---- lists of numbers as the functions make them

-- a number joined with those of a list
abbrev pub some : ℕ → List ℕ → ℕ
some x [] = x
some x (y ∷ s) = some (bit_or x y) s

pub some_more : (x : ℕ) (s : List ℕ) (y : ℕ) → some x (s ++ y ∷ []) ≡ bit_or (some x s) y
some_more x [] y = refl
some_more x (z ∷ s) y = some_more (bit_or x z) s y

-- the sum of f at some places; a list of such sums
abbrev total : (ℕ → ℕ) → List ℕ → ℕ
total f [] = 0
total f (i ∷ []) = f i
total f (i ∷ j ∷ l) = xor (f i) (total f (j ∷ l))

abbrev totals : (ℕ → ℕ) → List (List ℕ) → List ℕ
totals f [] = []
totals f (l ∷ ls) = total f l ∷ totals f ls

-- the bits that are summed for each bit of a doubled element, and of a square
abbrev doubles : List (List ℕ)
doubles =
    (10 ∷ []) ∷ (0 ∷ []) ∷ (1 ∷ 10 ∷ []) ∷ (2 ∷ []) ∷ (3 ∷ []) ∷ (4 ∷ []) ∷ (5 ∷ []) ∷ (6 ∷ []) ∷ (7 ∷ []) ∷ (8 ∷ []) ∷ (9 ∷ []) ∷ []

abbrev squares : List (List ℕ)
squares =
    (0 ∷ 10 ∷ []) ∷ (6 ∷ []) ∷ (1 ∷ 10 ∷ []) ∷ (6 ∷ 7 ∷ []) ∷ (2 ∷ []) ∷ (7 ∷ 8 ∷ []) ∷ (3 ∷ []) ∷ (8 ∷ 9 ∷ []) ∷ (4 ∷ []) ∷ (9 ∷ 10 ∷ []) ∷ (5 ∷ []) ∷ []

-- these sums, of the bits of each element of field B, are the bits of what g gives: a test that is computed
abbrev Gives : List (List ℕ) → (ℕ → ℕ) → Type 0
Gives ls g = every 2048 (λ x. eqb (lane 63 (totals (λ i. x / 2 ^ i) ls)) (g x)) ≡ true

doubles_tested : Gives doubles (doubled 11 2053)
unfolding every lane lane_bit xor doubled scale
doubles_tested = refl

squares_tested : Gives squares (λ x. times 11 2053 x x)
unfolding every lane lane_bit xor times times_from doubled scale
squares_tested = refl

-- ---- the bits of inner word k

module _ (k : ℕ) where
  pub bit_lt : (x : ℕ) → lane_bit k x < 2
  unfolding lane_bit
  bit_lt x = omega arith

  pub bit_none : lane_bit k 0 ≡ 0
  unfolding lane_bit
  bit_none = rw zero-div

  pub bit_sum : (x y : ℕ) → lane_bit k (xor x y) ≡ xor (lane_bit k x) (lane_bit k y)
  unfolding lane_bit
  bit_sum x y = rw (xor_high, xor_bit)

  pub bit_masked : (x m : ℕ) → lane_bit k (bit_and x m) ≡ min (lane_bit k x) (lane_bit k m)
  unfolding lane_bit
  bit_masked x m = rw and_shr (omega (arith, and_step (x / 2 ^ (63 - k)) (m / 2 ^ (63 - k))))

  pub bit_some : (x y : ℕ) → lane_bit k (bit_or x y) ≡ max (lane_bit k x) (lane_bit k y)
  unfolding lane_bit
  bit_some x y = rw or_shr (omega (arith, or_step (x / 2 ^ (63 - k)) (y / 2 ^ (63 - k))))

-- ---- sums, masks, and what is not zero

module _ (k : ℕ) where
  -- the number of a list is that of its places
  own : (s : List ℕ) → length s ≡ 11 → lane k (tabulate 11 (at s)) ≡ lane k s
  own s e = ap (lane k) (sym (tabulate_is 11 (at s) s 0 e (λ i l. refl)))

  plus_lane : (n : ℕ) (f g : ℕ → ℕ) → lane k (tabulate n (λ i. xor (f i) (g i))) ≡ xor (lane k (tabulate n f)) (lane k (tabulate n g))
  unfolding lane tabulate
  plus_lane zero f g = sym (xor_zero_l 0)
  plus_lane (suc n) f g = rw (bit_sum k, plus_lane n (λ i. f (suc i)) (λ i. g (suc i))) (sym (sum_digits _ _ _ _ (bit_lt k (f 0)) (bit_lt k (g 0))))

  masks_lane : (n : ℕ) (f : ℕ → ℕ) (m : ℕ) → lane k (tabulate n (λ i. bit_and (f i) m)) ≡ scale (lane_bit k m) (lane k (tabulate n f))
  unfolding lane tabulate
  masks_lane zero f m = sym (additive_zero (scale (lane_bit k m)) (scale_sum (lane_bit k m)))
  masks_lane (suc n) f m = rw (bit_masked k, masks_lane n (λ i. f (suc i)) m) (mask_digits _ _ _ (bit_lt k (f 0)) (bit_lt k m))

  some_lane : (x : ℕ) (s : List ℕ) → lane_bit k (some x s) ≡ min (lane_bit k x + 2 * lane k s) 1
  unfolding lane
  some_lane x [] = omega (arith, bit_lt k x)
  some_lane x (y ∷ s) = some_lane (bit_or x y) s ∙ rw (bit_some k) (omega (arith, bit_lt k x, bit_lt k y))

  pub plus_is : (x y : Lanes) {out : List ℕ} → length x.0 ≡ 11 → length y.0 ≡ 11 → out ≡ tabulate 11 (λ i. xor (at x.0 i) (at y.0 i)) →
      lane k out ≡ xor (element k x) (element k y)
  plus_is x y ex ey e = ap (lane k) e ∙ plus_lane 11 (at x.0) (at y.0) ∙ ap₂ xor (own x.0 ex) (own y.0 ey)

  pub masked_is : (x : Lanes) (m : ℕ) {out : List ℕ} → length x.0 ≡ 11 → out ≡ tabulate 11 (λ i. bit_and (at x.0 i) m) →
      lane k out ≡ scale (lane_bit k m) (element k x)
  masked_is x m ex e = ap (lane k) e ∙ masks_lane 11 (at x.0) m ∙ ap (scale (lane_bit k m)) (own x.0 ex)

  pub nonzero_is : (x : Lanes) {r : ℕ} → r ≡ some 0 x.0 → lane_bit k r ≡ min (element k x) 1
  nonzero_is x e = rw e (some_lane 0 x.0 ∙ rw (bit_none k) (omega arith))

  pub chosen_is : (x y m : ℕ) → xor y (scale (lane_bit k m) (xor x y)) ≡ cond (eqb (lane_bit k m) 1) x y
  unfolding scale
  chosen_is x y m = go (lane_bit k m) (bit_lt k m)
    where
      go : (b : ℕ) → b < 2 → xor y (scale b (xor x y)) ≡ cond (eqb b 1) x y
      go zero h = xor_zero_r y
      go (suc zero) h = rw (xor_comm x y) (xor_cancel y x)
      go (suc (suc b)) h = absurd (omega arith)

  -- ---- doubled elements and squares

  lane_lt : (s : List ℕ) → lane k s < 2 ^ length s
  unfolding lane
  lane_lt [] = pow_pos 0
  lane_lt (x ∷ s) = omega (arith, lane_lt s, bit_lt k x, pow-suc 2 (length s))

  lane_bit_lem : (s : List ℕ) (i : ℕ) → lane_bit k (at s i) ≡ lane_bit 63 (lane k s / 2 ^ i)
  unfolding lane lane_bit
  lane_bit_lem [] i = rw (zero-div (2 ^ (63 - k)), zero-div (2 ^ i))
  lane_bit_lem (x ∷ s) zero = omega arith
  lane_bit_lem (x ∷ s) (suc i) =
      let h : lane k s ≡ (lane_bit k x + 2 * lane k s) / 2 = omega (arith, bit_lt k x) in
      let e : 1 + i ≡ suc i = omega arith in
      lane_bit_lem s i ∙ ap (λ (z : ℕ). lane_bit 63 (z / 2 ^ i)) h ∙ rw (shr-shr (lane_bit k x + 2 * lane k s) 1 i, e)

  module _ (f g : ℕ → ℕ) (same : (i : ℕ) → lane_bit k (f i) ≡ lane_bit 63 (g i)) where
    total_same : (l : List ℕ) → lane_bit k (total f l) ≡ lane_bit 63 (total g l)
    total_same [] = bit_none k ∙ sym (bit_none 63)
    total_same (i ∷ []) = same i
    total_same (i ∷ j ∷ l) = bit_sum k _ _ ∙ ap₂ xor (same i) (total_same (j ∷ l)) ∙ sym (bit_sum 63 _ _)

    totals_same : (ls : List (List ℕ)) → lane k (totals f ls) ≡ lane 63 (totals g ls)
    unfolding lane
    totals_same [] = refl
    totals_same (l ∷ ls) = rw (total_same l, totals_same ls)

  tested : (ls : List (List ℕ)) (g : ℕ → ℕ) → Gives ls g → (x : Lanes) → length x.0 ≡ 11 → lane k (totals (at x.0) ls) ≡ g (element k x)
  tested ls g t x e = totals_same _ _ (lane_bit_lem x.0) ls ∙ eqb-true _ _ (every_at 2048 _ t (element k x) (rw e at (lane_lt x.0)))

  pub doubled_is : (x : Lanes) → length x.0 ≡ 11 → lane k (totals (at x.0) doubles) ≡ doubled 11 2053 (element k x)
  doubled_is = tested doubles (doubled 11 2053) doubles_tested

  pub square_is : (x : Lanes) → length x.0 ≡ 11 → lane k (totals (at x.0) squares) ≡ times 11 2053 (element k x) (element k x)
  square_is = tested squares (λ x. times 11 2053 x x) squares_tested

  -- ---- products, bit by bit

  -- the invariant: p is the product by the bits of y from number i on
  pub record Multiplied (x y : Lanes) (i : ℕ) (p : Lanes) : Type 0 where
    pub value : element k p ≡ times_from 11 2053 (11 - i) (element k x) (lane k (drop i y.0))

  pub multiplied_start : (x y : Lanes) → length y.0 ≡ 11 → Multiplied x y 11 (record { 0 = replicate 11 0 })
  unfolding times_from lane
  multiplied_start x y e = record { value = rw (bit_none k) refl }

  pub multiplied_next : {x y p r : Lanes} {i : ℕ} → Multiplied x y i p → length y.0 ≡ 11 → 0 < i → i ≤ 11 →
      element k r ≡ xor (doubled 11 2053 (element k p)) (scale (lane_bit k (at y.0 (i - 1))) (element k x)) → Multiplied x y (i - 1) r
  unfolding lane
  multiplied_next {x} {y} {p} {r} {i} so_far e some most er =
      let j = i - 1 in
      let more : j + 1 ≡ i = omega arith in
      let n : 11 - j ≡ suc (11 - i) = omega arith in
      let l : j < length y.0 = omega arith in
      record {
        value =
            rw (n, drop_more y.0 j 0 l, more)
            (er ∙ rw (so_far.value) (sym (times_digit 11 2053 (11 - i) (element k x) (lane_bit k (at y.0 j)) (lane k (drop i y.0)) (bit_lt k (at y.0 j)))));
      }

  pub multiplied_end : {x y p : Lanes} {i : ℕ} → Multiplied x y i p → i ≤ 0 → element k p ≡ times 11 2053 (element k x) (element k y)
  unfolding times
  multiplied_end {x} {y} {p} {i} h l = let e : i ≡ 0 = omega arith in rw e at h.value

  -- nothing is multiplied where an element is zero
  pub none_times : (x : Lanes) (y n : ℕ) → lane_bit k n ≡ min (element k x) 1 → n ≡ 0 → element k x ≡ times 11 2053 (element k x) y
  none_times x y n e z =
      let q : element k x ≡ 0 = omega (arith, ap (lane_bit k) z, bit_none k) in
      rw q (sym (zero_times 11 2053 y))
