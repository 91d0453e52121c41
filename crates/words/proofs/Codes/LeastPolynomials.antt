-- The eight factors are the least polynomials of their elements, and the divisor vanishes at all eight: by computed tests.
-- Assumes nothing.
use mathlib.Core.Path.{◌≡◌, refl, sym, ap, ◌∙◌}
use mathlib.Core.Bool.{Bool, true}
use mathlib.Core.List.{List, [], ◌∷◌}
use Prim.Native.Nat.{ℕ, zero, suc, ◌+◌, ◌*◌, ◌/◌, ◌%◌, ◌^◌, ◌<◌}
use native.Mathlib.Nat.{div-add-mod', div-lt_iff_lt-mul, le_refl, mod-lt, one-mul, zero-add, zero-mul}
use native.Mathlib.Omega.{arith}
use borrow.Author.Tests.{eqb-true}
use lib.Arith.{lt-one}
use lib.Dec.{eqb}
use lib.Pow.{pow_pos}
use Rattle.fields.specs.Elements.{xor, scale, doubled, times_from, times, power, times_b}
use Rattle.fields.specs.Places.{at, every}
use Rattle.fields.proofs.Xor.{xor_shifted, additive_zero}
use Rattle.fields.proofs.Times.{sum_times}
use Rattle.fields.proofs.Places.Tests.{every_at}
use Rattle.words.specs.InnerCode.{value_of, power_b, value_b, factors, product_of, divisor}
use Rattle.words.proofs.Codes.Horner.{Additive, value_of_sum}

pub divisor_is : divisor ≡ 317645624157077156049808851
unfolding divisor product_of factors value_of scale xor
divisor_is = refl

pub divisor_degree : divisor / 2 ^ 88 ≡ 1
divisor_degree = rw divisor_is

pub times_power_sum : (i : ℕ) → Additive (λ v. times_b v (power_b i))
times_power_sum i x y = sum_times 11 2053 x y (power_b i)

-- the polynomials r 0, r 1, .. r 7 vanish at a, a^3, .. a^15
abbrev vanish : ℕ → (ℕ → ℕ) → Bool
vanish n r = every 8 (λ j. eqb (value_b (2 * j + 1) n (r j)) 0)

vanishes : (n : ℕ) (r : ℕ → ℕ) → vanish n r ≡ true → (j : ℕ) → j < 8 → value_b (2 * j + 1) n (r j) ≡ 0
vanishes n r t j h = eqb-true _ _ (every_at 8 (λ j. eqb (value_b (2 * j + 1) n (r j)) 0) t j h)

factors_vanish : vanish 12 (at factors) ≡ true
unfolding every factors value_of scale xor times times_from doubled power
factors_vanish = refl

divisor_vanish : vanish 89 (λ j. divisor) ≡ true
unfolding every value_of scale xor times times_from doubled power
divisor_vanish = ap (λ (p : ℕ). vanish 89 (λ j. p)) divisor_is

-- each factor vanishes at its element, and the divisor at all eight
pub factor_vanishes : (j : ℕ) → j < 8 → value_b (2 * j + 1) 12 (at factors j) ≡ 0
factor_vanishes = vanishes 12 (at factors) factors_vanish

pub divisor_vanishes : (j : ℕ) → j < 8 → value_b (2 * j + 1) 89 divisor ≡ 0
divisor_vanishes = vanishes 89 (λ j. divisor) divisor_vanish

-- what respects sums and keeps 2^0, 2^1, .. 2^(n - 1) keeps every number below 2^n
module _ (f : ℕ → ℕ) (f_sum : Additive f) where
  keeps_top : (n t x : ℕ) → f (2 ^ n) ≡ 2 ^ n → t < 2 → x < 2 ^ n → f x ≡ x → f (t * 2 ^ n + x) ≡ t * 2 ^ n + x
  keeps_top n zero x k h l e = rw (zero-mul (2 ^ n), zero-add) e
  keeps_top n (suc zero) x k h l e =
      let s : xor (1 * 2 ^ n) x ≡ 1 * 2 ^ n + x = xor_shifted 1 n x l in
      rw (← s, f_sum, one-mul (2 ^ n), k, e)
  keeps_top n (suc (suc t)) x k h l e = absurd (omega arith)

  keeps_all : (n : ℕ) → ((i : ℕ) → i < n → f (2 ^ i) ≡ 2 ^ i) → (x : ℕ) → x < 2 ^ n → f x ≡ x
  keeps_all zero k x h = rw (lt-one h) (additive_zero f f_sum)
  keeps_all (suc n) k x h =
      let e : x / 2 ^ n * 2 ^ n + x % 2 ^ n ≡ x = div-add-mod' x (2 ^ n) in
      let t : x / 2 ^ n < 2 = (div-lt_iff_lt-mul (pow_pos n)).1 (omega arith) in
      let l : x % 2 ^ n < 2 ^ n = mod-lt x (pow_pos n) in
      ap f (sym e) ∙ keeps_top n (x / 2 ^ n) (x % 2 ^ n) (k n (le_refl (suc n))) t l (keeps_all n (λ i l. k i (omega arith)) (x % 2 ^ n) l) ∙ e

-- a as a polynomial in a, in a^3, .. in a^15
points : List ℕ
points = 2 ∷ 18 ∷ 1835 ∷ 1935 ∷ 34 ∷ 1967 ∷ 1477 ∷ 1572 ∷ []

-- from the value of a polynomial below degree 11 at a^(2j+1) back to the polynomial: the value is a polynomial in a, taken at that point
back : ℕ → ℕ → ℕ
back j = value_of (λ v. times 11 (at factors j) v (at points j)) 1 11

back_sum : (j : ℕ) → Additive (back j)
unfolding back
back_sum j = value_of_sum _ (λ x y. sum_times 11 (at factors j) x y (at points j)) 1 11

-- back j undoes the value at 2^i
abbrev undoes : ℕ → ℕ → Bool
undoes j i = eqb (back j (value_b (2 * j + 1) 12 (2 ^ i))) (2 ^ i)

all_undone : every 8 (λ j. every 11 (undoes j)) ≡ true
unfolding every back points factors value_of scale xor times times_from doubled power
all_undone = refl

undone : (j : ℕ) → j < 8 → (i : ℕ) → i < 11 → back j (value_b (2 * j + 1) 12 (2 ^ i)) ≡ 2 ^ i
undone j hj i hi = eqb-true _ _ (every_at 11 (undoes j) (every_at 8 (λ j. every 11 (undoes j)) all_undone j hj) i hi)

-- no polynomial but 0 of lower degree vanishes there
pub none_lower : (j r : ℕ) → j < 8 → r < 2048 → value_b (2 * j + 1) 12 r ≡ 0 → r ≡ 0
none_lower j r hj hr e =
    sym (keeps_all (λ x. back j (value_b (2 * j + 1) 12 x))
    (λ x y. ap (back j) (value_of_sum _ (times_power_sum (2 * j + 1)) 1 12 x y) ∙ back_sum j _ _) 11 (undone j hj) r hr)
    ∙ rw e (additive_zero (back j) (back_sum j))
