-- Loops over binary polynomials: a product, and the divisor formed from its factors. Assumes nothing.
use mathlib.Core.Path.{◌≡◌, refl, sym, ap, ap₂, ◌∙◌}
use mathlib.Core.Bool.{true}
use Prim.Native.Nat.{ℕ, zero, suc, ◌+◌, ◌-◌, ◌*◌, ◌/◌, ◌%◌, ◌^◌, ◌≤◌, ◌<◌}
use native.Mathlib.Nat.{add-suc, pow-suc}
use native.Mathlib.Numerals.{add-one}
use native.Mathlib.Omega.{arith}
use borrow.Author.Tests.{ltb-true}
use lib.Bits.{bit_xor}
use lib.Dec.{ltb}
use lib.Pow.{pow_mono, pow_pos, shr-shr}
use Rattle.fields.specs.Elements.{xor, scale}
use Rattle.fields.specs.Places.{at, every}
use Rattle.fields.proofs.Doubling.{scale_lt}
use Rattle.fields.proofs.Xor.{xor_lt}
use Rattle.fields.proofs.Places.Tests.{every_at}
use Rattle.words.specs.InnerCode.{value_of, factors, product_of, divisor}

-- a product by a polynomial of twelve coefficients, the highest first
product_lt : (y n r : ℕ) → y < 2 ^ 88 → value_of (λ u. 2 * u) y n r < 2 ^ (88 + n)
unfolding value_of
product_lt y zero r h = pow_pos 88
product_lt y (suc n) r h =
    let b : value_of (λ u. 2 * u) y n (r / 2) < 2 ^ (88 + n) = product_lt y n (r / 2) h in
    let m : 2 ^ 88 ≤ 2 ^ (88 + n) = pow_mono {i = 88} {j = 88 + n} (omega arith) in
    let e : 2 ^ (88 + suc n) ≡ 2 * 2 ^ (88 + n) = ap (λ (k : ℕ). 2 ^ k) (add-suc 88 n) ∙ pow-suc 2 (88 + n) ∙ omega arith in
    xor_lt (88 + suc n) _ _ (omega arith) (scale_lt (r % 2) y _ (pow_pos (88 + suc n)) (omega arith))

-- the product by the first k of the twelve coefficients of f
abbrev pub product_so_far : ℕ → ℕ → ℕ → ℕ
product_so_far f y k = value_of (λ u. 2 * u) y k (f / 2 ^ (12 - k))

module _ (f y u k : ℕ) where
  pub product_none : 0 ≡ product_so_far f y 0
  unfolding value_of
  product_none = refl

  module _ (so_far : u ≡ product_so_far f y k) where
    pub product_room : y < 2 ^ 88 → k < 12 → 2 * u < 2 ^ 128
    product_room hy hk =
        let b : product_so_far f y k < 2 ^ (88 + k) = product_lt y k (f / 2 ^ (12 - k)) hy in
        let m : 2 ^ (88 + k) ≤ 2 ^ 100 = pow_mono {i = 88 + k} {j = 100} (omega arith) in
        omega arith

    pub product_next : k < 12 → (p : ℕ) → p ≡ scale (f / 2 ^ (11 - k) % 2) y → bit_xor (2 * u) p ≡ product_so_far f y (k + 1)
    unfolding value_of xor
    product_next hk p e =
        let n : 12 - (k + 1) ≡ 11 - k = omega arith in
        let m : 11 - k + 1 ≡ 12 - k = omega arith in
        let half : f / 2 ^ (11 - k) / 2 ≡ f / 2 ^ (12 - k) = shr-shr f (11 - k) 1 ∙ ap (λ (s : ℕ). f / 2 ^ s) m in
        ap₂ bit_xor (ap (λ (s : ℕ). 2 * s) so_far) e
        ∙ sym (ap₂ (λ (m s : ℕ). value_of (λ u. 2 * u) y m (f / 2 ^ s)) (add-one k) n ∙ ap (λ (s : ℕ). bit_xor (2 * value_of (λ u. 2 * u) y k s) (scale (f / 2 ^ (11 - k) % 2) y)) half)

    pub product_end : 12 ≤ k → k ≤ 12 → u ≡ value_of (λ u. 2 * u) y 12 f
    product_end lo hi =
        let e : k ≡ 12 = omega arith in
        let z : f / 2 ^ 0 ≡ f = omega arith in
        rw (e, z) at so_far

-- the product of the first i factors
small : every 8 (λ i. ltb (product_of i) (2 ^ 88)) ≡ true
unfolding every product_of factors value_of scale xor
small = refl

pub factors_none : 1 ≡ product_of 0
unfolding product_of
factors_none = refl

module _ (d i : ℕ) (so_far : d ≡ product_of i) where
  pub factors_room : i < 8 → d < 2 ^ 88
  factors_room b =
      let s : product_of i < 2 ^ 88 = ltb-true _ _ (every_at 8 (λ i. ltb (product_of i) (2 ^ 88)) small i b) in
      omega arith

  pub factors_next : (f a : ℕ) → f ≡ at factors i → a ≡ value_of (λ u. 2 * u) d 12 f → a ≡ product_of (i + 1)
  unfolding product_of
  factors_next f a e n = n ∙ ap₂ (λ (y g : ℕ). value_of (λ u. 2 * u) y 12 g) so_far e ∙ sym (ap product_of (add-one i))

  pub factors_end : i ≤ 8 → 8 ≤ i → d ≡ divisor
  unfolding divisor
  factors_end lo hi = let e : i ≡ 8 = omega arith in rw e at so_far
