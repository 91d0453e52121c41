-- Products of bytes by doubling and adding. Assumes nothing.
use mathlib.Core.Path.{◌≡◌, refl, sym, ap, ◌∙◌}
use mathlib.Core.Bool.{true}
use Prim.Native.Nat.{ℕ, suc, ◌+◌, ◌-◌, ◌*◌, ◌/◌, ◌%◌, ◌^◌, ◌≤◌, ◌<◌}
use native.Mathlib.Omega.{arith}
use borrow.Author.Tests.{eqb-true}
use lib.Dec.{eqb}
use Rattle.fields.specs.Elements.{xor, scale, doubled, times, times_from, times_c}
use Rattle.fields.proofs.Xor.{xor_assoc, xor_zero_l, xor_zero_r}
use Rattle.fields.specs.Places.{every}
use Rattle.fields.proofs.Places.Tests.{every_at}

-- all bytes
double_test : every 256 (λ x. eqb (xor (x * 2 ^ 1 % 2 ^ 8) (29 * (x / 2 ^ 7))) (doubled 8 285 x)) ≡ true
unfolding every doubled scale xor
double_test = refl

pub double_is : (x : ℕ) → x < 256 → xor (x * 2 ^ 1 % 2 ^ 8) (29 * (x / 2 ^ 7)) ≡ doubled 8 285 x
double_is x l = eqb-true _ _ (every_at 256 (λ x. eqb (xor (x * 2 ^ 1 % 2 ^ 8) (29 * (x / 2 ^ 7))) (doubled 8 285 x)) double_test x l)

pub part_none : (x y : ℕ) → y % 2 < 1 → 0 ≡ scale (y % 2) x
unfolding scale
part_none x y h = let e : y % 2 ≡ 0 = omega arith in rw e

pub part_all : (x y : ℕ) → 1 ≤ y % 2 → x ≡ scale (y % 2) x
unfolding scale
part_all x y h = let e : y % 2 ≡ 1 = omega arith in rw e

-- the invariant of the product: what is added up, and what is left
unfoldable pub so_far : ℕ → ℕ → ℕ → ℕ → ℕ
so_far r n a b = xor r (times_from 8 285 n a b)

pub product_start : (x y : ℕ) → times_c x y ≡ so_far 0 (8 - 0) x y
unfolding times so_far
product_start x y = sym (xor_zero_l _)

product_step : (n a b r : ℕ) → so_far r (suc n) a b ≡ so_far (xor r (scale (b % 2) a)) n (doubled 8 285 a) (b / 2)
unfolding so_far times_from
product_step n a b r = sym (xor_assoc _ _ _)

pub product_next : (t i a b r p q d h : ℕ) → i < 8 → t ≡ so_far r (8 - i) a b → p ≡ scale (b % 2) a → q ≡ xor r p → d ≡ doubled 8 285 a → h ≡ b / 2 → t ≡ so_far q (8 - (i + 1)) d h
product_next t i a b r p q d h l e ep eq ed eh =
    let n : 8 - i ≡ suc (8 - (i + 1)) = omega arith in
    e ∙ ap (λ (n : ℕ). so_far r n a b) n ∙ product_step (8 - (i + 1)) a b r ∙ rw (eq, ep, ed, eh)

pub product_end : (t i a b r : ℕ) → 8 ≤ i → t ≡ so_far r (8 - i) a b → r ≡ t
unfolding so_far times_from
product_end t i a b r l e =
    let n : 8 - i ≡ 0 = omega arith in
    sym (e ∙ ap (λ (n : ℕ). xor r (times_from 8 285 n a b)) n ∙ xor_zero_r r)
