-- The search for the next place, each way through its functions: what can be listed, what a place holds once one more inner word is looked at, and all inner
-- words. Assumes nothing.
use mathlib.Core.Path.{◌≡◌, refl, sym, ◌∙◌}
use mathlib.Core.Logic.{◌⊎◌, inl, inr}
use mathlib.Core.Bool.{Bool, true, false, not, ◌&&◌, ◌||◌, cond, and-true, and-false, or-true, false≢true}
use mathlib.Core.List.{List}
use Prim.Native.Nat.{ℕ, ◌+◌, ◌<◌}
use native.Mathlib.Decide.{dec_lt}
use native.Mathlib.Numerals.{add-one}
use native.Mathlib.Omega.{arith}
use borrow.Author.Tests.{ltb-true, lt-ltb, eq-eqb, ne_eqb}
use lib.Dec.{eqb, ltb}
use lib.ListN.{get_or}
use Rattle.std.proofs.Common.{Option, Some, None, IfSome, unwrap_or}
use Rattle.logging.specs.WorstList.{Counts, count_of, is_before, is_open, earlier, first_open}
use Rattle.logging.proofs.Order.{none_outside}

-- ---- what can be listed

module _ (counts : Counts) (listed : List Bool) (k : ℕ) where
  -- one that can be listed
  abbrev pub Open : Type 0
  Open = is_open counts listed k ≡ true

  open_counted : (x : ℕ) → get_or listed k false ≡ false → x ≡ count_of counts k → ltb 0 x ≡ is_open counts listed k
  unfolding is_open
  open_counted x e ex = rw (e, ex) (sym (and-true (ltb 0 (count_of counts k))))

  -- what it says
  open_both : Open → (ltb 0 (count_of counts k) ≡ true) × (get_or listed k false ≡ false)
  unfolding is_open
  open_both o = go (ltb 0 (count_of counts k)) refl (get_or listed k false) refl o
    where
      go : (t : Bool) → ltb 0 (count_of counts k) ≡ t → (u : Bool) → get_or listed k false ≡ u → (t && not u) ≡ true →
          (ltb 0 (count_of counts k) ≡ true) × (get_or listed k false ≡ false)
      go true e false d o = (e, d)
      go true e true d o = absurd (false≢true o)
      go false e u d o = absurd (false≢true o)

  pub open_count : Open → 0 < count_of counts k
  open_count o = ltb-true _ _ (open_both o).0

  pub open_not_listed : Open → get_or listed k false ≡ false
  open_not_listed o = (open_both o).1

  pub open_inside : Open → k < 64
  open_inside o = go (dec_lt k 64)
    where
      go : Dec (k < 64) → k < 64
      go (yes h) = h
      go (no g) = absurd (omega (arith, open_count o, none_outside counts k (omega arith)))

  pub open_so : 0 < count_of counts k → get_or listed k false ≡ false → Open
  open_so some e = sym (open_counted (count_of counts k) e refl) ∙ lt-ltb 0 (count_of counts k) some

-- ---- one more inner word

module _ (counts : Counts) (listed : List Bool) (j k : ℕ) where
  -- k cannot be listed; or the place is empty; or it holds one that k stands before, or does not
  pub earlier_closed : (t : Bool) → t ≡ is_open counts listed k → t ≡ false → j ≡ earlier counts listed j k
  unfolding earlier
  earlier_closed t e o = rw (← e, o)

  pub earlier_empty : (t : Bool) → t ≡ is_open counts listed k → t ≡ true → j ≡ 64 → k ≡ earlier counts listed j k
  unfolding earlier
  earlier_empty t e o empty = rw (← e, o, eq-eqb j 64 empty)

  pub earlier_new : (t u : Bool) → t ≡ is_open counts listed k → t ≡ true → u ≡ is_before counts k j → u ≡ true → k ≡ earlier counts listed j k
  unfolding earlier
  earlier_new t u e o f b = rw (← e, o, ← f, b, or-true (eqb j 64))

  pub earlier_same : (u : Bool) → (j ≡ 64 → ⊥) → u ≡ is_before counts k j → u ≡ false → j ≡ earlier counts listed j k
  unfolding earlier
  earlier_same u full f b = rw (ne_eqb j 64 full, ← f, b, and-false (is_open counts listed k))

  -- one of the two
  earlier_one : (earlier counts listed j k ≡ j) ⊎ (earlier counts listed j k ≡ k)
  unfolding earlier
  earlier_one = go (is_open counts listed k && (eqb j 64 || is_before counts k j))
    where
      go : (t : Bool) → (cond t k j ≡ j) ⊎ (cond t k j ≡ k)
      go true = inr refl
      go false = inl refl

-- ---- all inner words

-- `first` holds the first of those among the first k that can be listed; the next one is looked at
module _ (counts : Counts) (listed : List Bool) (k : ℕ) (first : Option ℕ) (so_far : unwrap_or first 64 ≡ first_open counts listed k) where
  -- it cannot be listed
  pub first_closed : (t : Bool) → t ≡ is_open counts listed k → t ≡ false → unwrap_or first 64 ≡ first_open counts listed (k + 1)
  unfolding first_open
  first_closed t e o = rw add-one (so_far ∙ earlier_closed counts listed (first_open counts listed k) k t e o)

  -- it can be listed; the test u says whether it stands before the one that was first, and is true if there is none
  module _ (t : Bool) (e : t ≡ is_open counts listed k) (o : t ≡ true) (u : Bool) (none : first ≡ None → u ≡ true)
      (some : (j : ℕ) → first ≡ Some j → u ≡ is_before counts k j) where
    pub first_new : u ≡ true → k ≡ first_open counts listed (k + 1)
    unfolding first_open
    first_new b = rw add-one (go first refl)
      where
        go : (f : Option ℕ) → first ≡ f → k ≡ earlier counts listed (first_open counts listed k) k
        go None q = let v = rw q at so_far in earlier_empty counts listed (first_open counts listed k) k t e o (sym v)
        go (Some j) q = let v = rw q at so_far in let s = some j q in earlier_new counts listed (first_open counts listed k) k t u e o (rw v at s) b

    pub first_same : IfSome first (λ j. j < 64) → u ≡ false → unwrap_or first 64 ≡ first_open counts listed (k + 1)
    unfolding first_open
    first_same within b = rw add-one (go first refl)
      where
        go : (f : Option ℕ) → first ≡ f → unwrap_or first 64 ≡ earlier counts listed (first_open counts listed k) k
        go None q = absurd (false≢true (sym b ∙ none q))
        go (Some j) q =
            let l = rw q at within in
            let v = rw q at so_far in
            let s = some j q in
            rw q (v ∙ earlier_same counts listed (first_open counts listed k) k u (λ e. omega (arith, l, v)) (rw v at s) b)
