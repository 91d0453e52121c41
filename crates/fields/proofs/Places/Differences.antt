-- Sums over places, and words that differ nowhere. Assumes nothing.
use mathlib.Core.Path.{◌≡◌, refl, ap, ap₂, ◌∙◌}
use mathlib.Core.List.{List}
use Prim.Native.Nat.{ℕ, zero, suc, ◌+◌, ◌-◌, ◌*◌, ◌≤◌, ◌<◌}
use native.Mathlib.Decide.{ℕ_discrete}
use native.Mathlib.Nat.{add-suc, add-zero, mul-suc, mul-zero, not-suc-le-zero}
use native.Mathlib.Omega.{arith}
use lib.ListN.{length}
use lib.Seq.{ext_get_or}
use Rattle.fields.specs.Lists.{tabulate}
use Rattle.fields.specs.Places.{at, sum_to, differs, apart_between, apart}
use Rattle.fields.proofs.Lists.{tabulate_at, tabulate_length}
use Rattle.fields.proofs.Places.Counting.{differs_self, differs_none, sum_zero, sum_add, sum_same, apart_sum}

-- each is at most the sum
pub sum_at_lem : (n : ℕ) (f : ℕ → ℕ) (i : ℕ) → i < n → f i ≤ sum_to n f
unfolding sum_to
sum_at_lem zero f i l = absurd (not-suc-le-zero l)
sum_at_lem (suc n) f i l = go (sum_at_lem n f i) (ℕ_discrete i n)
  where
    go : (i < n → f i ≤ sum_to n f) → Dec (i ≡ n) → f i ≤ sum_to n f + f n
    go before (yes e) = rw e (omega arith)
    go before (no e) = omega (arith, before (omega arith))

pub sum_plus : (m n : ℕ) (f : ℕ → ℕ) → sum_to (m + n) f ≡ sum_to m f + sum_to n (λ i. f (m + i))
unfolding sum_to
sum_plus m zero f = rw (add-zero m) (omega arith)
sum_plus m (suc n) f = rw add-suc (omega (arith, sum_plus m n f))

-- a sum of sums may be taken in either order
pub sum_grid : (m n : ℕ) (f : ℕ → ℕ) → sum_to m (λ k. sum_to n (λ p. f (m * p + k))) ≡ sum_to (m * n) f
unfolding sum_to
sum_grid m zero f = rw mul-zero (sum_zero m _ (λ k l. refl))
sum_grid m (suc n) f =
    rw mul-suc (omega (arith, sum_add m (λ k. sum_to n (λ p. f (m * p + k))) (λ k. f (m * n + k)), sum_grid m n f, sum_plus (m * n) m f))

pub apart_tables : (n : ℕ) (f g : ℕ → ℕ) → apart (tabulate n f) (tabulate n g) ≡ sum_to n (λ i. differs (f i) (g i))
apart_tables n f g = rw (apart_sum, tabulate_length n f) (sum_same n _ _ (λ i l. ap₂ differs (tabulate_at n f i 0 l) (tabulate_at n g i 0 l)))

pub apart_self : (c : List ℕ) → apart c c ≡ 0
apart_self c = apart_sum c c ∙ sum_zero (length c) _ (λ i l. differs_self (at c i))

pub apart_none : (c d : List ℕ) → length c ≡ length d → apart c d ≡ 0 → c ≡ d
apart_none c d e z =
    ext_get_or 0 c d e (λ i l. differs_none (at c i) (at d i) (omega (arith, apart_sum c d, sum_at_lem (length c) (λ i. differs (at c i) (at d i)) i l)))

-- ---- between two places

-- counts over ranges that follow each other add up
pub between_plus : (from mid to : ℕ) (c d : List ℕ) → from ≤ mid → mid ≤ to → apart_between from to c d ≡ apart_between from mid c d + apart_between mid to c d
unfolding apart_between
between_plus from mid to c d l m =
    let parts : to - from ≡ (mid - from) + (to - mid) = omega arith in
    rw (parts, sum_plus (mid - from) (to - mid)) (ap (λ (n : ℕ). sum_to (mid - from) (λ i. differs (at c (from + i)) (at d (from + i))) + n)
    (sum_same (to - mid) _ _ (λ i h. let e : from + ((mid - from) + i) ≡ mid + i = omega arith in ap (λ (j : ℕ). differs (at c j) (at d j)) e)))

pub between_tables : (from to n : ℕ) (f g : ℕ → ℕ) → to ≤ n →
    apart_between from to (tabulate n f) (tabulate n g) ≡ sum_to (to - from) (λ i. differs (f (from + i)) (g (from + i)))
unfolding apart_between
between_tables from to n f g h =
    sum_same (to - from) _ _ (λ i l. ap₂ differs (tabulate_at n f (from + i) 0 (omega arith)) (tabulate_at n g (from + i) 0 (omega arith)))
