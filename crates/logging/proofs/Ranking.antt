-- The laws of the worst list, for any number of places: each place named or empty, sorted, nothing worse left out. Of the order this uses only that it is a strict
-- total order. Assumes nothing.
use mathlib.Core.Path.{◌≡◌, sym, ap, ◌∙◌}
use mathlib.Core.Logic.{◌⊎◌, inl, inr, ⊎_elim}
use mathlib.Core.Bool.{Bool, true, false, true≢false}
use mathlib.Core.List.{List}
use Prim.Native.Nat.{ℕ, zero, suc, ◌<◌}
use native.Mathlib.Nat.{not-suc-le-zero}
use native.Mathlib.Omega.{arith}
use lib.ListN.{length, get_or, set, length-set, replicate, length-replicate, get_or-replicate}
use lib.Seq.{get_or-set_same, get_or-set_other}
use Rattle.logging.specs.WorstList.{Counts, count_of, first_open, worst_from, worst_words}
use Rattle.logging.specs.Laws.{Before, place_of, Worst}
use Rattle.logging.proofs.Order.{irreflexive}
use Rattle.logging.proofs.Search.{Open, open_count, open_inside, open_not_listed, open_so}
use Rattle.logging.proofs.WorstOfAll.{top_named, top_before}
use Rattle.logging.proofs.Listing.{from_long}

-- ---- with the first marked

module _ (counts : Counts) (listed : List Bool) where
  abbrev marked : List Bool
  marked = set listed (first_open counts listed 64) true

  -- one that can still be listed is another than the first, and could be listed before
  other : length listed ≡ 65 → (k : ℕ) → Open counts marked k → k ≡ first_open counts listed 64 → ⊥
  other long k o e =
      true≢false
      (sym (get_or-set_same listed (first_open counts listed 64) true false (omega (arith, long, open_inside counts marked k o, e)))
      ∙ ap (λ (j : ℕ). get_or marked j false) (sym e)
      ∙ open_not_listed counts marked k o)

  was_open : length listed ≡ 65 → (k : ℕ) → Open counts marked k → Open counts listed k
  was_open long k o =
      open_so counts listed k (open_count counts marked k o)
      (sym (get_or-set_other listed (first_open counts listed 64) k true false (other long k o)) ∙ open_not_listed counts marked k o)

  -- the others can still be listed
  still_open : (k : ℕ) → Open counts listed k → (k ≡ first_open counts listed 64 → ⊥) → Open counts marked k
  still_open k o differ =
      open_so counts marked k (open_count counts listed k o)
      (get_or-set_other listed (first_open counts listed 64) k true false differ ∙ open_not_listed counts listed k o)

  marked_long : length listed ≡ 65 → length marked ≡ 65
  marked_long long = length-set listed (first_open counts listed 64) true ∙ long

module _ (counts : Counts) where
  -- ---- places named or empty

  from_named : (n : ℕ) (listed : List Bool) → length listed ≡ 65 → (i : ℕ) → i < n →
      (place_of (worst_from n counts listed) i ≡ 64) ⊎ Open counts listed (place_of (worst_from n counts listed) i)
  unfolding worst_from
  from_named zero listed long i h = absurd (not-suc-le-zero h)
  from_named (suc n) listed long zero h = top_named counts listed
  from_named (suc n) listed long (suc i) h =
      ⊎_elim (λ e. inl e) (λ o. inr (was_open counts listed long _ o)) (from_named n (marked counts listed) (marked_long counts listed long) i (omega arith))

  -- a place below 64 is named
  from_some : (n : ℕ) (listed : List Bool) → length listed ≡ 65 → (i : ℕ) → i < n → place_of (worst_from n counts listed) i < 64 →
      Open counts listed (place_of (worst_from n counts listed) i)
  from_some n listed long i h l = ⊎_elim (λ e. absurd (omega arith)) (λ o. o) (from_named n listed long i h)

  -- ---- sorted

  from_sorted : (n : ℕ) (listed : List Bool) → length listed ≡ 65 → (i j : ℕ) → i < j → j < n → place_of (worst_from n counts listed) j < 64 →
      (place_of (worst_from n counts listed) i < 64) × Before counts (place_of (worst_from n counts listed) i) (place_of (worst_from n counts listed) j)
  unfolding worst_from
  from_sorted zero listed long i j h l small = absurd (not-suc-le-zero l)
  from_sorted (suc n) listed long i zero h l small = absurd (not-suc-le-zero h)
  from_sorted (suc n) listed long zero (suc j) h l small =
      let o = from_some n (marked counts listed) (marked_long counts listed long) j (omega arith) small in
      top_before counts listed _ (was_open counts listed long _ o) (other counts listed long _ o)
  from_sorted (suc n) listed long (suc i) (suc j) h l small =
      from_sorted n (marked counts listed) (marked_long counts listed long) i j (omega arith) (omega arith) small

  -- ---- nothing worse left out

  from_complete : (n : ℕ) (listed : List Bool) (k : ℕ) → Open counts listed k → ((i : ℕ) → i < n → place_of (worst_from n counts listed) i ≡ k → ⊥) →
      (i : ℕ) → i < n → (place_of (worst_from n counts listed) i < 64) × Before counts (place_of (worst_from n counts listed) i) k
  unfolding worst_from
  from_complete zero listed k o absent i h = absurd (not-suc-le-zero h)
  from_complete (suc n) listed k o absent zero h = top_before counts listed k o (λ e. absent 0 h (sym e))
  from_complete (suc n) listed k o absent (suc i) h =
      let still = still_open counts listed k o (λ e. absent 0 (omega arith) (sym e)) in
      from_complete n (marked counts listed) k still (λ i l e. absent (suc i) (omega arith) e) i (omega arith)

  -- ---- eight places

  -- nothing stands before itself
  before_self : (j k : ℕ) → Before counts j k → j ≡ k → ⊥
  before_self j k b e = irreflexive counts k (rw e at b)

  -- an inner word with a count above 0 can be listed at the start
  open_start : (k : ℕ) → k < 64 → 0 < count_of counts k → Open counts (replicate 65 false) k
  open_start k l some = open_so counts (replicate 65 false) k some (get_or-replicate 65 k false false (omega arith))

  pub worst_list : Worst counts (worst_words counts)
  unfolding worst_words
  worst_list =
      record {
        eight = from_long 8 counts start;
        named = λ i h. ⊎_elim (λ e. inl e) (λ o. inr (open_inside counts start _ o, open_count counts start _ o)) (named i h);
        sorted = sorted;
        once = λ i j h l e. ⊎_elim (λ x. x) (λ o. absurd (before_self _ _ (sorted i j h l (below e o)).1 e)) (named i (omega arith));
        complete = λ k l some. from_complete 8 start k (open_start k l some);
      }
    where
      start : List Bool
      start = replicate 65 false

      below : {j k : ℕ} → j ≡ k → Open counts start j → k < 64
      below {j} e o = omega (arith, e, open_inside counts start j o)

      long : length start ≡ 65
      long = length-replicate 65 false

      named : (i : ℕ) → i < 8 → (place_of (worst_from 8 counts start) i ≡ 64) ⊎ Open counts start (place_of (worst_from 8 counts start) i)
      named = from_named 8 start long

      sorted : (i j : ℕ) → i < j → j < 8 → place_of (worst_from 8 counts start) j < 64 →
          (place_of (worst_from 8 counts start) i < 64) × Before counts (place_of (worst_from 8 counts start) i) (place_of (worst_from 8 counts start) j)
      sorted = from_sorted 8 start long
