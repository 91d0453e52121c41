-- In how many places words differ. Assumes nothing.
use mathlib.Core.Path.{◌≡◌, refl, sym, ap, ◌∙◌}
use mathlib.Core.Bool.{Bool, true, false, cond}
use mathlib.Core.List.{List, ◌++◌}
use Prim.Native.Nat.{ℕ, zero, suc, ◌+◌, ◌-◌, ◌≤◌, ◌<◌, zero-le}
use native.Mathlib.Decide.{ℕ_discrete}
use native.Mathlib.Nat.{add-suc, add-zero, le_refl, not-suc-le-zero, zero-add}
use native.Mathlib.Omega.{arith}
use borrow.Author.Tests.{eq-eqb, eqb-true}
use lib.Dec.{eqb}
use lib.ListN.{length, length-append, get_or-append}
use Rattle.fields.specs.Places.{at, sum_to, differs, apart_between, apart}

pub differs_most : (x y : ℕ) → differs x y ≤ 1
unfolding differs
differs_most x y = go (eqb x y)
  where
    go : (b : Bool) → cond b 0 1 ≤ 1
    go true = omega arith
    go false = le_refl 1

pub differs_self : (x : ℕ) → differs x x ≡ 0
unfolding differs
differs_self x = rw (eq-eqb x x refl)

pub sum_most : (m n : ℕ) (f : ℕ → ℕ) → ((i : ℕ) → i < m → f i ≡ 0) → ((i : ℕ) → f i ≤ 1) → sum_to (m + n) f ≤ n
unfolding sum_to
sum_most zero zero f z o = le_refl 0
sum_most (suc m) zero f z o =
    let before : sum_to m f ≤ 0 = rw add-zero at (sum_most m zero f (λ i l. z i (omega arith)) o) in
    rw add-zero (omega (arith, z m (le_refl (suc m))))
sum_most m (suc n) f z o = rw add-suc (omega (arith, sum_most m n f z o, o (m + n)))

pub sum_zero : (n : ℕ) (f : ℕ → ℕ) → ((i : ℕ) → i < n → f i ≡ 0) → sum_to n f ≡ 0
unfolding sum_to
sum_zero zero f h = refl
sum_zero (suc n) f h = omega (arith, sum_zero n f (λ i l. h i (omega arith)), h n (le_refl (suc n)))

pub sum_same : (n : ℕ) (f g : ℕ → ℕ) → ((i : ℕ) → i < n → f i ≡ g i) → sum_to n f ≡ sum_to n g
unfolding sum_to
sum_same zero f g h = refl
sum_same (suc n) f g h = omega (arith, sum_same n f g (λ i l. h i (omega arith)), h n (le_refl (suc n)))

-- sums that differ in one place, by one
pub sum_one_more : (n j : ℕ) (f g : ℕ → ℕ) → j < n → g j ≡ suc (f j) → ((i : ℕ) → i < n → ¬ (i ≡ j) → f i ≡ g i) → sum_to n g ≡ suc (sum_to n f)
unfolding sum_to
sum_one_more zero j f g l e h = absurd (not-suc-le-zero l)
sum_one_more (suc n) j f g l e h = go (ℕ_discrete j n) (λ l. sum_one_more n j f g l e (λ i b n. h i (omega arith) n))
  where
    go : Dec (j ≡ n) → (j < n → sum_to n g ≡ suc (sum_to n f)) → sum_to n g + g n ≡ suc (sum_to n f + f n)
    go (yes q) before =
        let last : g n ≡ suc (f n) = rw q at e in
        omega (arith, last, sum_same n f g (λ i b. h i (omega arith) (λ k. omega arith)))
    go (no q) before = omega (arith, before (omega arith), h n (le_refl (suc n)) (λ k. omega arith))

-- the distance, place by place
pub apart_sum : (c d : List ℕ) → apart c d ≡ sum_to (length c) (λ i. differs (at c i) (at d i))
unfolding apart apart_between
apart_sum c d =
    let all : length c - 0 ≡ length c = omega arith in
    rw all (sum_same (length c) _ _ (λ i l. ap (λ (j : ℕ). differs (at c j) (at d j)) (zero-add i)))

-- words with the same beginning differ at most in the rest
pub apart_append : (c a b : List ℕ) → apart (c ++ a) (c ++ b) ≤ length a
apart_append c a b =
    rw (apart_sum, length-append c a) (sum_most (length c) (length a) (λ i. differs (at (c ++ a) i) (at (c ++ b) i))
    (λ i l. rw (get_or-append c a 0 i l, get_or-append c b 0 i l) (differs_self (at c i))) (λ i. differs_most (at (c ++ a) i) (at (c ++ b) i)))

-- ---- the triangle inequality

pub sum_mono : (n : ℕ) (f g : ℕ → ℕ) → ((i : ℕ) → i < n → f i ≤ g i) → sum_to n f ≤ sum_to n g
unfolding sum_to
sum_mono zero f g h = zero-le
sum_mono (suc n) f g h = omega (arith, sum_mono n f g (λ i l. h i (omega arith)), h n (le_refl (suc n)))

pub sum_add : (n : ℕ) (f g : ℕ → ℕ) → sum_to n (λ i. f i + g i) ≡ sum_to n f + sum_to n g
unfolding sum_to
sum_add zero f g = refl
sum_add (suc n) f g = omega (arith, sum_add n f g)

pub differs_none : (x y : ℕ) → differs x y ≡ 0 → x ≡ y
unfolding differs
differs_none x y h = go (eqb x y) refl
  where
    go : (b : Bool) → eqb x y ≡ b → x ≡ y
    go true e = eqb-true x y e
    go false e = let z : ◌≡◌ {A = ℕ} 1 0 = rw e at h in omega arith

-- a number that is 0 only where two symbols are equal
pub differs_by : (x y n : ℕ) → (n ≡ 0 → x ≡ y) → differs x y ≤ n
differs_by x y zero h = rw (h refl) (omega (arith, differs_self y))
differs_by x y (suc n) h = omega (arith, differs_most x y)

pub apart_two : (w c d : List ℕ) → length c ≡ length w → apart c d ≤ apart w c + apart w d
apart_two w c d e =
    rw (apart_sum c d, apart_sum w c, apart_sum w d, e, ← (sum_add (length w) (λ i. differs (at w i) (at c i)) (λ i. differs (at w i) (at d i))))
    (sum_mono (length w) _ _ (λ i l. differs_by (at c i) (at d i) _ (λ z. sym (differs_none (at w i) (at c i) (omega arith)) ∙ differs_none (at w i) (at d i) (omega arith))))
