-- Document 03's worst list is ours where no two counts above 0 are equal. It has the words that are taken, where ours has a mark for each word that is listed.
-- Assumes nothing.
use mathlib.Core.Path.{◌≡◌, refl, sym, ap, ◌∙◌}
use mathlib.Core.Logic.{◌⊎◌, inl, inr, ⊎_elim}
use mathlib.Core.Bool.{Bool, true, false, ◌&&◌, ◌||◌, not, cond, and_assoc, and_comm}
use mathlib.Core.List.{List, ◌∷◌}
use Prim.Native.Nat.{ℕ, zero, suc, ◌+◌, ◌≤◌, ◌<◌}
use native.Mathlib.Nat.{le_refl}
use native.Mathlib.Omega.{arith}
use borrow.Author.Tests.{eq-eqb, eqb-true, eqb-false, leb-true, lt-ltb}
use lib.Dec.{eqb, ltb, leb}
use lib.ListN.{length, get_or, set, length-set}
use lib.Seq.{get_or-set_same, get_or-set_other}
use Rattle.logging.specs.WorstList.{Counts, count_in, count_of, is_before, is_open, earlier, first_open}
use Rattle.logging.specs.WorstList as WorstList
use Rattle.logging.proofs.Order.{before_count}
use Rattle.logging.proofs.WorstOfAll.{top}
use Rattle.document03.proofs.Counts.{together, together_at}
use Rattle.document03.proofs.Fields.{pick, is_in}
use Rattle.document03.proofs.Logging.Says.{worst_from, worst_of, WithoutTies}

-- the library's count of an inner word is the sum of two entries
count_inside : (list : List ℕ) (k x : ℕ) → k < 64 → x ≡ get_or list k 0 → x ≡ count_in list k
unfolding count_in
count_inside list k x h e = rw (lt-ltb k 64 h, e)

count_together : (counts : Counts) (k x y : ℕ) → x ≡ count_in counts.0 k → y ≡ count_in counts.1 k → x + y ≡ count_of counts k
unfolding count_of
count_together counts k x y ex ey = rw (ex, ey)

-- the marks where some words are taken
abbrev Marks : List ℕ → List Bool → Type 0
Marks taken listed = (length listed ≡ 65) × ((k : ℕ) → k < 64 → get_or listed k false ≡ is_in k taken)

module _ (cs : Counts) (differ : WithoutTies (together cs.0 cs.1)) (taken : List ℕ) (listed : List Bool) (marks : Marks taken listed) where
  -- its counts
  abbrev xs : List ℕ
  xs = together cs.0 cs.1

  count_at : (k : ℕ) → k < 64 → get_or xs k 0 ≡ count_of cs k
  count_at k h = together_at cs.0 cs.1 k h ∙ count_together cs k _ _ (count_inside cs.0 k _ h refl) (count_inside cs.1 k _ h refl)

  -- its test of word k against the best so far
  abbrev Test : ℕ → ℕ → Bool
  Test best k = not (is_in k taken) && (leb 1 (get_or xs k 0) && (eqb best 64 || ltb (get_or xs best 0) (get_or xs k 0)))

  -- of two words one stands before the other by its count alone, as no two above 0 are equal
  later_before : (j k : ℕ) → j < k → k < 64 → 0 < get_or xs k 0 → is_before cs k j ≡ ltb (get_or xs j 0) (get_or xs k 0)
  later_before j k l h some = sym (before_count cs k j _ _ (count_at k h) (count_at j (omega arith)) (λ e. differ j k l h some (sym e)))

  -- what can be listed
  open_agrees : (k : ℕ) → k < 64 → is_open cs listed k ≡ (not (is_in k taken) && leb 1 (get_or xs k 0))
  unfolding is_open
  open_agrees k h = rw (← count_at k h, marks.1 k h) (and_comm (ltb 0 (get_or xs k 0)) (not (is_in k taken)))

  test_agrees : (b k : ℕ) → (b ≡ 64) ⊎ (b < k) → k < 64 → (is_open cs listed k && (eqb b 64 || is_before cs k b)) ≡ Test b k
  test_agrees b k best h =
      ap (λ (t : Bool). t && (eqb b 64 || is_before cs k b)) (open_agrees k h)
      ∙ and_assoc (not (is_in k taken)) (leb 1 (get_or xs k 0)) (eqb b 64 || is_before cs k b)
      ∙ ap (λ (t : Bool). not (is_in k taken) && t) (counted (leb 1 (get_or xs k 0)) refl)
    where
      place : (b ≡ 64) ⊎ (b < k) → 0 < get_or xs k 0 → (eqb b 64 || is_before cs k b) ≡ (eqb b 64 || ltb (get_or xs b 0) (get_or xs k 0))
      place (inl empty) some = rw (eq-eqb b 64 empty)
      place (inr l) some = ap (λ (t : Bool). eqb b 64 || t) (later_before b k l h some)

      counted : (t : Bool) → leb 1 (get_or xs k 0) ≡ t → (t && (eqb b 64 || is_before cs k b)) ≡ (t && (eqb b 64 || ltb (get_or xs b 0) (get_or xs k 0)))
      counted true e = place best (leb-true 1 (get_or xs k 0) e)
      counted false e = refl

  pick_earlier : (b k : ℕ) → (b ≡ 64) ⊎ (b < k) → k < 64 → pick (Test b k) k b ≡ earlier cs listed b k
  unfolding earlier
  pick_earlier b k best h = go (Test b k) ∙ ap (λ (t : Bool). cond t k b) (sym (test_agrees b k best h))
    where
      go : (t : Bool) → pick t k b ≡ cond t k b
      go true = refl
      go false = refl

  from_agrees : (n k : ℕ) → k + n ≤ 64 → worst_from n k (first_open cs listed k) xs taken ≡ first_open cs listed (k + n)
  unfolding first_open
  from_agrees zero k h = let e : k ≡ k + 0 = omega arith in ap (first_open cs listed) e
  from_agrees (suc n) k h =
      let best : (first_open cs listed k ≡ 64) ⊎ (first_open cs listed k < k) = ⊎_elim (λ e. inl e) (λ p. inr p.0) (top cs listed k).named in
      let step : pick (Test (first_open cs listed k) k) k (first_open cs listed k) ≡ first_open cs listed (suc k) = pick_earlier _ k best (omega arith) in
      let e : suc k + n ≡ k + suc n = omega arith in
      ap (λ (b : ℕ). worst_from n (suc k) b xs taken) step ∙ from_agrees n (suc k) (omega arith) ∙ ap (first_open cs listed) e

  -- its word is ours
  word_agrees : worst_from 64 0 64 xs taken ≡ first_open cs listed 64
  unfolding first_open
  word_agrees = from_agrees 64 0 (le_refl 64)

  -- with one more word taken
  marks_next : (w : ℕ) → Marks (w ∷ taken) (set listed w true)
  marks_next w = (length-set listed w true ∙ marks.0, λ k h. go k h (eqb k w) refl)
    where
      go : (k : ℕ) → k < 64 → (t : Bool) → eqb k w ≡ t → get_or (set listed w true) k false ≡ (t || is_in k taken)
      go k h true e =
          let is = eqb-true k w e in
          ap (λ (j : ℕ). get_or (set listed w true) j false) is ∙ get_or-set_same listed w true false (omega (arith, marks.0, is))
      go k h false e = get_or-set_other listed w k true false (eqb-false k w e) ∙ marks.1 k h

module _ (cs : Counts) (differ : WithoutTies (together cs.0 cs.1)) where
  pub list_agrees : (n : ℕ) (taken : List ℕ) (listed : List Bool) → Marks taken listed → worst_of n (together cs.0 cs.1) taken ≡ WorstList.worst_from n cs listed
  unfolding WorstList.worst_from
  list_agrees zero taken listed marks = refl
  list_agrees (suc n) taken listed marks =
      let w = first_open cs listed 64 in
      rw (word_agrees cs differ taken listed marks)
      (ap (λ (rest : List ℕ). w ∷ rest) (list_agrees n (w ∷ taken) (set listed w true) (marks_next cs differ taken listed marks w)))
