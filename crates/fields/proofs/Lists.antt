-- Laws of lists given place by place, and of a number found by a test. Assumes nothing.
use mathlib.Core.Path.{◌≡◌, refl, sym, ap, ap₂, ◌∙◌}
use mathlib.Core.Bool.{Bool, true, false, cond}
use mathlib.Core.List.{List, ◌∷◌, ◌++◌}
use mathlib.Core.Logic.{◌⊎◌, inl, inr}
use Prim.Native.Nat.{ℕ, zero, suc, ◌+◌, ◌≤◌, ◌<◌}
use native.Mathlib.Nat.{eq-or-lt_of_le, le_of_suc-le-suc, le_refl, not-suc-le-zero, suc-add, zero-add}
use native.Mathlib.Omega.{arith}
use lib.Dec.{T}
use lib.ListN.{length, get_or}
use lib.Seq.{ext_get_or}
use Rattle.fields.specs.Lists.{tabulate, find}

pub tabulate_length : {A : Type 0} (n : ℕ) (f : ℕ → A) → length (tabulate n f) ≡ n
unfolding tabulate
tabulate_length zero f = refl
tabulate_length (suc n) f = ap suc (tabulate_length n (λ i. f (suc i)))

pub tabulate_at : {A : Type 0} (n : ℕ) (f : ℕ → A) (i : ℕ) (d : A) → i < n → get_or (tabulate n f) i d ≡ f i
unfolding tabulate
tabulate_at zero f i d h = absurd (not-suc-le-zero h)
tabulate_at (suc n) f zero d h = refl
tabulate_at (suc n) f (suc i) d h = tabulate_at n (λ i. f (suc i)) i d (le_of_suc-le-suc h)

-- a list is known by its length and its entries
pub tabulate_is : {A : Type 0} (n : ℕ) (f : ℕ → A) (l : List A) (d : A) → length l ≡ n → ((i : ℕ) → i < n → get_or l i d ≡ f i) → l ≡ tabulate n f
tabulate_is n f l d e h =
    ext_get_or d l (tabulate n f) (e ∙ sym (tabulate_length n f)) (λ i lt. let lt' : i < n = rw e at lt in h i lt' ∙ sym (tabulate_at n f i d lt'))

pub tabulate_same : {A : Type 0} (n : ℕ) (f g : ℕ → A) → ((i : ℕ) → i < n → f i ≡ g i) → tabulate n f ≡ tabulate n g
unfolding tabulate
tabulate_same zero f g h = refl
tabulate_same {A} (suc n) f g h = ap₂ {C = List A} (λ x r. x ∷ r) (h 0 (omega arith)) (tabulate_same n (λ i. f (suc i)) (λ i. g (suc i)) (λ i l. h (suc i) (omega arith)))

-- the entries of f up to m, and those from there on
pub tabulate_append : {A : Type 0} (m n : ℕ) (f g : ℕ → A) → ((i : ℕ) → g i ≡ f (m + i)) → tabulate m f ++ tabulate n g ≡ tabulate (m + n) f
unfolding tabulate
tabulate_append zero n f g h = tabulate_same n g f (λ i l. h i ∙ ap f (zero-add i)) ∙ ap (λ (k : ℕ). tabulate k f) (sym (zero-add n))
tabulate_append {A} (suc m) n f g h =
    ap (λ (r : List A). f 0 ∷ r) (tabulate_append m n (λ i. f (suc i)) g (λ i. h i ∙ ap f (suc-add m i))) ∙ ap (λ (k : ℕ). tabulate k f) (sym (suc-add m n))

-- a bound on the entries holds past the end too
pub tabulate_lt : (q n : ℕ) (f : ℕ → ℕ) → 0 < q → ((i : ℕ) → f i < q) → (i : ℕ) → get_or (tabulate n f) i 0 < q
unfolding tabulate
tabulate_lt q zero f z h i = z
tabulate_lt q (suc n) f z h zero = h 0
tabulate_lt q (suc n) f z h (suc i) = tabulate_lt q n (λ j. f (suc j)) z (λ j. h (suc j)) i

-- what passes a test is found
found : (f : ℕ → Bool) (n i : ℕ) (b : Bool) → f n ≡ b → T (f i) → (i ≡ n) ⊎ (i < n) → (i < n → (find f n < n) × T (f (find f n))) → (cond b n (find f n) < suc n) × T (f (cond b n (find f n)))
found f n i true e t c rest = (le_refl (suc n), rw e tt)
found f n i false e t (inl q) rest = absurd (rw (q, e) at t)
found f n i false e t (inr l) rest = let r = rest l in (omega (arith, r.0), r.1)

pub find_found : (f : ℕ → Bool) (n i : ℕ) → i < n → T (f i) → (find f n < n) × T (f (find f n))
unfolding find
find_found f zero i h t = absurd (not-suc-le-zero h)
find_found f (suc n) i h t = found f n i (f n) refl t (eq-or-lt_of_le (le_of_suc-le-suc h)) (λ l. find_found f n i l t)

-- what is found is below the bound
find_le : (b : Bool) (n k : ℕ) → k ≤ n → cond b n k ≤ n
find_le true n k h = le_refl n
find_le false n k h = h

find_most : (f : ℕ → Bool) (n : ℕ) → find f n ≤ n
unfolding find
find_most f zero = le_refl 0
find_most f (suc n) = omega (arith, find_le (f n) n (find f n) (find_most f n))

pub find_lt : (f : ℕ → Bool) (n : ℕ) → 0 < n → find f n < n
unfolding find
find_lt f zero h = absurd (not-suc-le-zero h)
find_lt f (suc n) h = omega (arith, find_le (f n) n (find f n) (find_most f n))

-- where nothing passes, 0 is given
pub find_none : (f : ℕ → Bool) (n : ℕ) → ((i : ℕ) → i < n → f i ≡ false) → find f n ≡ 0
unfolding find
find_none f zero h = refl
find_none f (suc n) h = rw (h n (le_refl (suc n))) (find_none f n (λ i l. h i (omega arith)))
