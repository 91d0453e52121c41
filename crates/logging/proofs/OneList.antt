-- Two lists with the laws of the worst list agree, so that there is one. Of the order this uses only that it is a strict total order. Assumes nothing.
use mathlib.Core.Path.{◌≡◌, sym, ◌∙◌}
use mathlib.Core.Logic.{◌⊎◌, inl, inr, ⊎_elim}
use mathlib.Core.List.{List}
use Prim.Native.Nat.{ℕ, zero, suc, ◌≤◌, ◌<◌}
use native.Mathlib.Decide.{dec_lt}
use native.Mathlib.Nat.{le_refl, not-suc-le-zero}
use native.Mathlib.Omega.{arith}
use borrow.Author.Count.{below_more}
use lib.Seq.{ext_get_or}
use Rattle.logging.specs.WorstList.{Counts, worst_words}
use Rattle.logging.specs.Laws.{Before, place_of, Worst}
use Rattle.logging.proofs.Order.{irreflexive, transitive}
use Rattle.logging.proofs.WorstOfAll.{same_or_not}
use Rattle.logging.proofs.Ranking.{worst_list}

-- whether k is among the first n places
abbrev Among : List ℕ → ℕ → ℕ → Type 0
Among list k n = (j : ℕ) × (j < n) × (place_of list j ≡ k)

abbrev Absent : List ℕ → ℕ → ℕ → Type 0
Absent list k n = (j : ℕ) → j < n → place_of list j ≡ k → ⊥

among_or_not : (list : List ℕ) (k n : ℕ) → Among list k n ⊎ Absent list k n
among_or_not list k zero = inr (λ j h. absurd (not-suc-le-zero h))
among_or_not list k (suc n) =
    ⊎_elim (λ p. inl (p.0, omega (arith, p.1), p.2))
    (λ absent. ⊎_elim (λ e. inl (n, omega arith, e)) (λ differ. inr (λ j l. below_more _ n absent differ j (omega arith))) (same_or_not (place_of list n) k)) (among_or_not list k n)

-- two such lists that agree before place i: if the first names an inner word there, the other names that one or one that stands before it
module _ (counts : Counts) where
  no_later : (l m : List ℕ) → Worst counts l → Worst counts m → (i : ℕ) → i < 8 → ((j : ℕ) → j < i → place_of l j ≡ place_of m j) → place_of l i < 64 →
      (place_of m i < 64) × ((place_of l i ≡ place_of m i → ⊥) → Before counts (place_of m i) (place_of l i))
  no_later l m wl wm i h agree small = ⊎_elim among absent (among_or_not m (place_of l i) 8)
    where
      Answer : Type 0
      Answer = (place_of m i < 64) × ((place_of l i ≡ place_of m i → ⊥) → Before counts (place_of m i) (place_of l i))

      absent : Absent m (place_of l i) 8 → Answer
      absent none =
          let some = ⊎_elim (λ e. absurd (omega arith)) (λ p. p.1) (wl.named i h) in
          let p = wm.complete (place_of l i) small some none i h in
          (p.0, λ differ. p.1)

      among : Among m (place_of l i) 8 → Answer
      among (j, below, e) = go (dec_lt j i) (dec_lt i j)
        where
          go : Dec (j < i) → Dec (i < j) → Answer
          go (yes before) d = absurd (omega (arith, wl.once j i before h (agree j before ∙ e), agree j before, e))
          go (no g) (yes after) =
              let p = wm.sorted i j after below (omega (arith, e)) in
              (p.0, λ differ. rw e at p.1)
          go (no g) (no f) =
              let here : j ≡ i = omega arith in
              let at_i : place_of m i ≡ place_of l i = rw here at e in
              (omega arith, λ differ. absurd (differ (sym at_i)))

  -- no two inner words stand before each other
  not_both : (j k : ℕ) → Before counts j k → Before counts k j → ⊥
  not_both j k b c = irreflexive counts j (transitive counts j k j b c)

  -- so two such lists agree at place i, and at all places
  module _ (l m : List ℕ) (wl : Worst counts l) (wm : Worst counts m) where
    agree_at : (i : ℕ) → i < 8 → ((j : ℕ) → j < i → place_of l j ≡ place_of m j) → place_of l i ≡ place_of m i
    agree_at i h agree = go (dec_lt (place_of l i) 64) (dec_lt (place_of m i) 64)
      where
        empty : (n : List ℕ) → Worst counts n → (place_of n i < 64 → ⊥) → place_of n i ≡ 64
        empty n w none = ⊎_elim (λ e. e) (λ p. absurd (none p.0)) (w.named i h)

        go : Dec (place_of l i < 64) → Dec (place_of m i < 64) → place_of l i ≡ place_of m i
        go (yes a) d =
            let there = no_later l m wl wm i h agree a in
            let back = no_later m l wm wl i h (λ j b. sym (agree j b)) there.0 in
            ⊎_elim (λ e. e) (λ differ. absurd (not_both _ _ (there.1 differ) (back.1 (λ e. differ (sym e))))) (same_or_not (place_of l i) (place_of m i))
        go (no f) (yes b) = absurd (f (no_later m l wm wl i h (λ j b. sym (agree j b)) b).0)
        go (no f) (no g) = empty l wl f ∙ sym (empty m wm g)

    agree_below : (n : ℕ) → n ≤ 8 → (j : ℕ) → j < n → place_of l j ≡ place_of m j
    agree_below zero h j b = absurd (not-suc-le-zero b)
    agree_below (suc n) h j b = below_more _ n (agree_below n (omega arith)) (agree_at n (omega arith) (agree_below n (omega arith))) j (omega arith)

    worst_one : l ≡ m
    worst_one = ext_get_or 64 l m (wl.eight ∙ sym wm.eight) (λ i b. agree_below 8 (le_refl 8) i (omega (arith, wl.eight)))

  pub worst_only : (list : List ℕ) → Worst counts list → list ≡ worst_words counts
  worst_only list w = worst_one list (worst_words counts) w (worst_list counts)
