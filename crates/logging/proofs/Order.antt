-- The order of the worst list. This file alone looks into it: the comparison of ranks, document 02's words for it, and that it is a strict total order.
-- Assumes nothing.
use mathlib.Core.Path.{◌≡◌, refl, sym, ◌∙◌}
use mathlib.Core.Logic.{◌⊎◌, inl, inr}
use mathlib.Core.Bool.{◌&&◌, ◌||◌, or-false}
use mathlib.Core.List.{List}
use Prim.Native.Nat.{ℕ, ◌+◌, ◌≤◌, ◌<◌}
use native.Mathlib.Decide.{dec_lt, ℕ_discrete}
use native.Mathlib.Omega.{arith}
use borrow.Author.Tests.{ltb-true, lt-ltb, le-ltb, eq-eqb, ne_eqb}
use lib.Dec.{eqb, ltb}
use Rattle.std.proofs.Common.{Option, Some}
use Rattle.std.proofs.lemmas.Bool.Decides.{nat_tests}
use Rattle.std.specs.declared.cmp.Ordering.{Ordering}
use Rattle.std.specs.Ordering.{nat_cmp, is_gt, is_some_and, partial_ordering_then}
use Rattle.logging.specs.WorstList.{Counts, count_in, count_of, data_of, is_before}
use Rattle.logging.specs.Laws.{Before, PutFirst}

-- ---- counts

count_outside : (list : List ℕ) (k : ℕ) → 64 ≤ k → 0 ≡ count_in list k
unfolding count_in
count_outside list k h = rw (le-ltb k 64 h)

count_together : (counts : Counts) (k x y : ℕ) → x ≡ count_in counts.0 k → y ≡ count_in counts.1 k → x + y ≡ count_of counts k
unfolding count_of
count_together counts k x y ex ey = rw (ex, ey)

-- an empty place has none
pub none_outside : (counts : Counts) (k : ℕ) → 64 ≤ k → 0 ≡ count_of counts k
none_outside counts k h = count_together counts k 0 0 (count_outside counts.0 k h) (count_outside counts.1 k h)

-- ---- its parts, one after another

module _ (counts : Counts) (j k x y : ℕ) (ex : x ≡ count_of counts j) (ey : y ≡ count_of counts k) where
  pub before_count : (x ≡ y → ⊥) → ltb y x ≡ is_before counts j k
  unfolding is_before
  before_count n = rw (← ex, ← ey, ne_eqb x y n) (sym (or-false (ltb y x)))

  module _ (u v : ℕ) (eu : u ≡ data_of counts j) (ev : v ≡ data_of counts k) (equal : x ≡ y) where
    pub before_data : (u ≡ v → ⊥) → ltb v u ≡ is_before counts j k
    unfolding is_before
    before_data n = rw (← ex, ← ey, le-ltb y x (omega arith), eq-eqb x y equal, ← eu, ← ev, ne_eqb u v n) (sym (or-false (ltb v u)))

    pub before_number : u ≡ v → ltb k j ≡ is_before counts j k
    unfolding is_before
    before_number e = rw (← ex, ← ey, le-ltb y x (omega arith), eq-eqb x y equal, ← eu, ← ev, le-ltb v u (omega arith), eq-eqb u v e)

-- ranks, field by field
larger : (x y : ℕ) (o : Option Ordering) → is_some_and is_gt (partial_ordering_then (Some (nat_cmp x y)) o) ≡ (ltb y x || (eqb x y && is_some_and is_gt o))
larger x y o = grind (arith, nat_tests)

pub before_ranked : (counts : Counts) (j k x y u v m n : ℕ) → x ≡ count_of counts j → y ≡ count_of counts k → u ≡ data_of counts j → v ≡ data_of counts k →
    m ≡ j → n ≡ k →
    is_some_and is_gt (partial_ordering_then (Some (nat_cmp x y)) (partial_ordering_then (Some (nat_cmp u v)) (Some (nat_cmp m n)))) ≡ is_before counts j k
unfolding is_before
before_ranked counts j k x y u v m n ex ey eu ev em en = rw (← ex, ← ey, ← eu, ← ev, ← em, ← en) (grind (larger, arith))

-- ---- document 02's words

module _ (counts : Counts) (j k : ℕ) where
  before_says : Before counts j k → PutFirst counts j k
  before_says b = go (ℕ_discrete (count_of counts j) (count_of counts k)) (ℕ_discrete (data_of counts j) (data_of counts k))
    where
      go : Dec (count_of counts j ≡ count_of counts k) → Dec (data_of counts j ≡ data_of counts k) → PutFirst counts j k
      go (no n) d = inl (ltb-true _ _ (before_count counts j k _ _ refl refl n ∙ b))
      go (yes e) (no n) = inr (e, inl (ltb-true _ _ (before_data counts j k _ _ refl refl _ _ refl refl e n ∙ b)))
      go (yes e) (yes d) = inr (e, inr (d, ltb-true k j (before_number counts j k _ _ refl refl _ _ refl refl e d ∙ b)))

  says_before : PutFirst counts j k → Before counts j k
  says_before (inl larger) = sym (before_count counts j k _ _ refl refl (λ e. omega arith)) ∙ lt-ltb _ _ larger
  says_before (inr (e, inl more)) = sym (before_data counts j k _ _ refl refl _ _ refl refl e (λ d. omega arith)) ∙ lt-ltb _ _ more
  says_before (inr (e, inr (d, higher))) = sym (before_number counts j k _ _ refl refl _ _ refl refl e d) ∙ lt-ltb k j higher

  pub in_words : (Before counts j k → PutFirst counts j k) × (PutFirst counts j k → Before counts j k)
  in_words = (before_says, says_before)

-- ---- a strict total order

module _ (counts : Counts) where
  pub irreflexive : (k : ℕ) → Before counts k k → ⊥
  irreflexive k b = go (before_says counts k k b)
    where
      go : PutFirst counts k k → ⊥
      go (inl h) = omega arith
      go (inr (e, inl h)) = omega arith
      go (inr (e, inr (d, h))) = omega arith

  pub transitive : (i j k : ℕ) → Before counts i j → Before counts j k → Before counts i k
  transitive i j k b c = says_before counts i k (go (before_says counts i j b) (before_says counts j k c))
    where
      go : PutFirst counts i j → PutFirst counts j k → PutFirst counts i k
      go (inl g) (inl h) = inl (omega arith)
      go (inl g) (inr (e, p)) = inl (omega arith)
      go (inr (e, p)) (inl h) = inl (omega arith)
      go (inr (e, inl g)) (inr (f, inl h)) = inr (omega arith, inl (omega arith))
      go (inr (e, inl g)) (inr (f, inr (d, h))) = inr (omega arith, inl (omega arith))
      go (inr (e, inr (d, g))) (inr (f, inl h)) = inr (omega arith, inl (omega arith))
      go (inr (e, inr (d, g))) (inr (f, inr (c, h))) = inr (omega arith, inr (omega arith, omega arith))

  pub comparable : (j k : ℕ) → (j ≡ k → ⊥) → Before counts j k ⊎ Before counts k j
  comparable j k differ =
      go (ℕ_discrete (count_of counts j) (count_of counts k)) (ℕ_discrete (data_of counts j) (data_of counts k)) (dec_lt (count_of counts k) (count_of counts j))
      (dec_lt (data_of counts k) (data_of counts j)) (dec_lt k j)
    where
      -- j stands before k, or k before j
      first : PutFirst counts j k → Before counts j k ⊎ Before counts k j
      first p = inl (says_before counts j k p)

      second : PutFirst counts k j → Before counts j k ⊎ Before counts k j
      second p = inr (says_before counts k j p)

      go : Dec (count_of counts j ≡ count_of counts k) → Dec (data_of counts j ≡ data_of counts k) → Dec (count_of counts k < count_of counts j) →
          Dec (data_of counts k < data_of counts j) → Dec (k < j) → Before counts j k ⊎ Before counts k j
      go (no n) c (yes h) d l = first (inl h)
      go (no n) c (no h) d l = second (inl (omega (arith, n)))
      go (yes e) (no n) s (yes h) l = first (inr (e, inl h))
      go (yes e) (no n) s (no h) l = second (inr (sym e, inl (omega (arith, n))))
      go (yes e) (yes c) s d (yes h) = first (inr (e, inr (c, h)))
      go (yes e) (yes c) s d (no h) = second (inr (sym e, inr (sym c, omega (arith, differ))))
