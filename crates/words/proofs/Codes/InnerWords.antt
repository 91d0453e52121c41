-- Inner code words: what the test tells, and that they are zero at a^1 to a^16. Assumes nothing.
use mathlib.Core.Path.{◌≡◌, refl, sym, ap, ◌∙◌, subst}
use mathlib.Core.Bool.{true, ◌&&◌, and-eq-true_iff}
use mathlib.Core.List.{List}
use Prim.Native.Nat.{ℕ, zero, suc, ◌+◌, ◌*◌, ◌/◌, ◌%◌, ◌^◌, ◌≤◌, ◌<◌}
use native.Mathlib.Omega.{arith}
use borrow.Author.Tests.{eqb-true}
use lib.Arith.{bin_ind}
use lib.Dec.{eqb, lit<}
use lib.ListN.{length}
use Rattle.fields.specs.Places.{at, all_below, value}
use Rattle.fields.proofs.Instances.{field_b}
use Rattle.fields.proofs.Places.Tests.{below_at}
use Rattle.words.specs.InnerCode.{power_b, value_b, divisor, remainder, is_inner}
use Rattle.words.proofs.Codes.Horner.{scale_one, horner_same, value_of_zero, value_remainder}
use Rattle.words.proofs.Codes.LeastPolynomials.{divisor_degree, divisor_vanishes, times_power_sum}
use Rattle.words.proofs.Codes.Squares.{squares}

pub record Inner (w : List ℕ) : Type 0 where
  pub long : length w ≡ 2040
  pub bits : (i : ℕ) → at w i < 2
  pub divides : remainder 88 divisor (at w) 2040 ≡ 0

pub inner_is : (w : List ℕ) → is_inner w ≡ true → Inner w
unfolding is_inner
inner_is w h =
    let a = (and-eq-true_iff (eqb (length w) 2040) (all_below 2 w && eqb (remainder 88 divisor (at w) 2040) 0)).0 h in
    let b = (and-eq-true_iff (all_below 2 w) (eqb (remainder 88 divisor (at w) 2040) 0)).0 a.1 in
    record { long = eqb-true _ _ a.0; bits = below_at 2 w (lit< tt) b.0; divides = eqb-true _ _ b.1 }

-- where p vanishes, the remainder of a binary word by p has the word's value
pub remainder_value : (i m p : ℕ) → 0 < m → p / 2 ^ m ≡ 1 → value_b i (suc m) p ≡ 0 → (b : ℕ → ℕ) → ((k : ℕ) → b k < 2) → (n : ℕ) →
    value_b i (suc m) (remainder m p b n) ≡ value 11 2053 (power_b i) b n
remainder_value i m p positive degree root b bits n =
    value_remainder _ (times_power_sum i) 1 m p positive degree root b bits n ∙ horner_same _ _ _ n (λ k l. scale_one (b k) (bits k))

-- what holds of the odd numbers below 16, and with a number of twice that number, holds of 1 to 16
module _ (P : ℕ → Type 0) (odd : (j : ℕ) → j < 8 → P (2 * j + 1)) (twice : (e : ℕ) → 0 < e → e ≤ 8 → P e → P (e + e)) where
  by_half : (e t : ℕ) → e % 2 ≡ t → (0 < e / 2 → e / 2 ≤ 16 → P (e / 2)) → 0 < e → e ≤ 16 → P e
  by_half e zero q half h l = let d : e / 2 + e / 2 ≡ e = omega arith in subst P d (twice (e / 2) (omega arith) (omega arith) (half (omega arith) (omega arith)))
  by_half e (suc zero) q half h l = let d : 2 * (e / 2) + 1 ≡ e = omega arith in subst P d (odd (e / 2) (omega arith))
  by_half e (suc (suc t)) q half h l = absurd (omega arith)

  pub by_doubling : (e : ℕ) → 0 < e → e ≤ 16 → P e
  by_doubling = bin_ind (λ (e : ℕ). 0 < e → e ≤ 16 → P e) (λ h l. absurd (omega arith)) (λ e half. by_half e (e % 2) refl half)

-- a binary word that is zero at an element is zero at its square; one that the divisor divides is zero at a, a^3, .. a^15
abbrev pub Root : (ℕ → ℕ) → ℕ → ℕ → Type 0
Root b n e = value 11 2053 (power_b e) b n ≡ 0

module _ (b : ℕ → ℕ) (bits : (i : ℕ) → b i < 2) (n : ℕ) where
  pub root_twice : (e : ℕ) → Root b n e → Root b n (e + e)
  root_twice e z =
      ap (λ (x : ℕ). value 11 2053 x b n) (sym (field_b.power_sum_lem e e)) ∙ squares 11 2053 field_b (power_b e) (field_b.power_lt e) b bits n
      ∙ rw z (field_b.times_zero 0)

  root_odd : remainder 88 divisor b n ≡ 0 → (j : ℕ) → j < 8 → Root b n (2 * j + 1)
  root_odd divides j h =
      sym (remainder_value (2 * j + 1) 88 divisor (lit< tt) divisor_degree (divisor_vanishes j h) b bits n)
      ∙ rw divides (value_of_zero _ (times_power_sum (2 * j + 1)) 1 89)

pub inner_roots : (w : List ℕ) → Inner w → (e : ℕ) → 0 < e → e ≤ 16 → Root (at w) 2040 e
inner_roots w c = by_doubling _ (root_odd (at w) c.bits 2040 c.divides) (λ e h l. root_twice (at w) c.bits 2040 e)
