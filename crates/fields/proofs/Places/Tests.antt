-- Laws of the tests of words: `every` and `all_below`. Assumes nothing.
use mathlib.Core.Path.{◌≡◌, refl, sym, ap, ◌∙◌}
use mathlib.Core.Bool.{Bool, true, false, ◌&&◌, and-eq-true_iff, and-false}
use mathlib.Core.List.{List, ◌++◌}
use mathlib.Core.Logic.{◌⊎◌, inl, inr}
use Prim.Native.Nat.{ℕ, zero, suc, ◌+◌, ◌-◌, ◌<◌}
use native.Mathlib.Decide.{dec_lt}
use native.Mathlib.Nat.{eq-or-lt_of_le, le_of_suc-le-suc, le_refl, not-suc-le-zero}
use native.Mathlib.Omega.{arith}
use borrow.Author.Tests.{ltb-true, lt-ltb}
use lib.Dec.{ltb}
use lib.ListN.{length, get_or, take, drop, length-append, take-append-drop, get_or-append, get_or-eq_default}
use lib.Seq.{get_or-append-add}
use Rattle.fields.specs.Places.{at, every, all_below}

-- two tests of which each holds if the other does
pub tests_agree : (a b : Bool) → (a ≡ true → b ≡ true) → (b ≡ true → a ≡ true) → a ≡ b
tests_agree true b h g = sym (h refl)
tests_agree false true h g = g refl
tests_agree false false h g = refl

passed : (n : ℕ) (f : ℕ → Bool) → (every n f && f n) ≡ true → (every n f ≡ true → (i : ℕ) → i < n → f i ≡ true) →
    (i : ℕ) → (i ≡ n) ⊎ (i < n) → f i ≡ true
passed n f t before i (inl e) = rw e ((and-eq-true_iff (every n f) (f n)).0 t).1
passed n f t before i (inr l) = before ((and-eq-true_iff (every n f) (f n)).0 t).0 i l

pub every_at : (n : ℕ) (f : ℕ → Bool) → every n f ≡ true → (i : ℕ) → i < n → f i ≡ true
unfolding every
every_at zero f t i h = absurd (not-suc-le-zero h)
every_at (suc n) f t i h = passed n f t (every_at n f) i (eq-or-lt_of_le (le_of_suc-le-suc h))

pub every_true : (n : ℕ) (f : ℕ → Bool) → ((i : ℕ) → i < n → f i ≡ true) → every n f ≡ true
unfolding every
every_true zero f h = refl
every_true (suc n) f h = rw (every_true n f (λ i l. h i (omega arith))) (h n (le_refl (suc n)))

failed : (n : ℕ) (f : ℕ → Bool) (i : ℕ) → f i ≡ false → (i ≡ n) ⊎ (i < n) → (i < n → every n f ≡ false) → (every n f && f n) ≡ false
failed n f i e (inl q) before = rw (← q, e) (and-false (every i f))
failed n f i e (inr l) before = rw (before l)

pub every_false : (n : ℕ) (f : ℕ → Bool) (i : ℕ) → i < n → f i ≡ false → every n f ≡ false
unfolding every
every_false zero f i h e = absurd (not-suc-le-zero h)
every_false (suc n) f i h e = failed n f i e (eq-or-lt_of_le (le_of_suc-le-suc h)) (λ l. every_false n f i l e)

pub every_same : (n : ℕ) (f g : ℕ → Bool) → ((i : ℕ) → i < n → f i ≡ g i) → every n f ≡ every n g
unfolding every
every_same zero f g h = refl
every_same (suc n) f g h = rw (every_same n f g (λ i l. h i (omega arith)), h n (le_refl (suc n)))

pub below_lt : (q : ℕ) (w : List ℕ) → all_below q w ≡ true → (i : ℕ) → i < length w → at w i < q
unfolding all_below
below_lt q w t i h = ltb-true (at w i) q (every_at (length w) (λ j. ltb (at w j) q) t i h)

-- each symbol of a word is below q, and so is 0 past its end
pub below_at : (q : ℕ) (w : List ℕ) → 0 < q → all_below q w ≡ true → (i : ℕ) → at w i < q
below_at q w h t i = go (dec_lt i (length w))
  where
    go : Dec (i < length w) → get_or w i 0 < q
    go (yes l) = below_lt q w t i l
    go (no g) = rw (get_or-eq_default w 0 {n = i} (omega arith)) h

pub below_all : (q : ℕ) (w : List ℕ) → ((i : ℕ) → i < length w → at w i < q) → all_below q w ≡ true
unfolding all_below
below_all q w h = every_true (length w) _ (λ i l. lt-ltb (at w i) q (h i l))

pub below_append : (q : ℕ) (c d : List ℕ) → all_below q c ≡ true → all_below q d ≡ true → all_below q (c ++ d) ≡ true
below_append q c d hc hd = below_all q (c ++ d) (λ i l. go i (rw (length-append c d) at l) (dec_lt i (length c)))
  where
    go : (i : ℕ) → i < length c + length d → Dec (i < length c) → get_or (c ++ d) i 0 < q
    go i h (yes l) = rw (get_or-append c d 0 i l) (below_lt q c hc i l)
    go i h (no g) =
        let e : length c + (i - length c) ≡ i = omega arith in
        rw (← e, get_or-append-add c d (i - length c) 0) (below_lt q d hd (i - length c) (omega arith))

pub below_take : (q n : ℕ) (w : List ℕ) → all_below q w ≡ true → all_below q (take n w) ≡ true
below_take q n w h =
    let whole = take-append-drop n w in
    let long : length w ≡ length (take n w) + length (drop n w) = ap length (sym whole) ∙ length-append (take n w) (drop n w) in
    below_all q (take n w)
    (λ i l. rw (← get_or-append (take n w) (drop n w) 0 i l, whole) (below_lt q w h i (omega arith)))
