-- The worst list, place by place: what its loop keeps, and its laws. Assumes nothing.
use mathlib.Core.Path.{◌≡◌, refl, sym, ap, ◌∙◌}
use mathlib.Core.Bool.{Bool, true, false}
use mathlib.Core.List.{List, [], ◌∷◌}
use Prim.Native.Nat.{ℕ, zero, suc, ◌+◌, ◌-◌, ◌≤◌, ◌<◌}
use native.Mathlib.Decide.{dec_lt, ℕ_discrete}
use native.Mathlib.Nat.{not-suc-le-zero}
use native.Mathlib.Numerals.{add-one}
use native.Mathlib.Omega.{arith}
use lib.ListN.{length, get_or, drop, set, length-set, replicate, length-replicate, get_or-replicate}
use lib.Seq.{drop-cons, ext_get_or, get_or-set_same, get_or-set_other}
use Rattle.std.proofs.lemmas.List.{get_or-drop}
use Rattle.logging.specs.WorstList.{Counts, is_open, earlier, first_open, worst_from, worst_words}

pub from_long : (n : ℕ) (counts : Counts) (listed : List Bool) → length (worst_from n counts listed) ≡ n
unfolding worst_from
from_long zero counts listed = refl
from_long (suc n) counts listed = ap suc (from_long n counts (set listed (first_open counts listed 64) true))

-- ---- marks of the 64 inner words are enough

-- two lists of marks that have place for the inner words, and agree there
record Alike (a b : List Bool) : Type 0 where
  first : 64 ≤ length a
  second : 64 ≤ length b
  same : (k : ℕ) → k < 64 → get_or a k false ≡ get_or b k false

module _ (counts : Counts) where
  first_alike : (a b : List Bool) → Alike a b → (n : ℕ) → n ≤ 64 → first_open counts a n ≡ first_open counts b n
  unfolding first_open earlier is_open
  first_alike a b s zero h = refl
  first_alike a b s (suc n) h = rw (first_alike a b s n (omega arith), s.same n (omega arith))

  set_alike : (a b : List Bool) → Alike a b → (j : ℕ) → Alike (set a j true) (set b j true)
  set_alike a b s j =
      record {
        first = omega (arith, s.first, length-set a j true);
        second = omega (arith, s.second, length-set b j true);
        same = λ k l. go k l (ℕ_discrete k j);
      }
    where
      go : (k : ℕ) → k < 64 → Dec (k ≡ j) → get_or (set a j true) k false ≡ get_or (set b j true) k false
      go k l (yes e) = rw (e, get_or-set_same a j true false (omega (arith, s.first)), get_or-set_same b j true false (omega (arith, s.second)))
      go k l (no f) = rw (get_or-set_other a j k true false f, get_or-set_other b j k true false f) (s.same k l)

  from_alike : (n : ℕ) (a b : List Bool) → Alike a b → worst_from n counts a ≡ worst_from n counts b
  unfolding worst_from
  from_alike zero a b s = refl
  from_alike (suc n) a b s = rw (first_alike a b s 64 (omega arith)) (ap (λ (l : List ℕ). first_open counts b 64 ∷ l) (from_alike n _ _ (set_alike a b s (first_open counts b 64))))

  from_marks : worst_words counts ≡ worst_from 8 counts (replicate 64 false)
  unfolding worst_words
  from_marks =
      from_alike 8 (replicate 65 false) (replicate 64 false)
      record {
        first = omega (arith, length-replicate 65 false);
        second = omega (arith, length-replicate 64 false);
        same = λ k l. get_or-replicate 65 k false false (omega arith) ∙ sym (get_or-replicate 64 k false false l);
      }

-- ---- where none can be listed, the places that are left are empty

set_beyond : (listed : List Bool) (i : ℕ) → length listed ≤ i → set listed i true ≡ listed
set_beyond [] i h = refl
set_beyond (x ∷ listed) zero h = absurd (omega arith)
set_beyond (x ∷ listed) (suc i) h = ap (λ (l : List Bool). x ∷ l) (set_beyond listed i (omega arith))

none_left : (counts : Counts) (listed : List Bool) → length listed ≤ 64 → 64 ≡ first_open counts listed 64 → (n j : ℕ) → get_or (worst_from n counts listed) j 64 ≡ 64
unfolding worst_from
none_left counts listed long none zero j = refl
none_left counts listed long none (suc n) zero = sym none
none_left counts listed long none (suc n) (suc j) = rw (← none, set_beyond listed 64 long) (none_left counts listed long none n j)

-- ---- the loop

-- the invariant: the first i places are listed, those after them are empty so far, and the marks of the first give the others
pub record Listed (counts : Counts) (i : ℕ) (listed : List Bool) (list : List ℕ) : Type 0 where
  pub within : i ≤ 8
  pub marks : length listed ≡ 64
  pub long : length list ≡ 8
  pub done : (j : ℕ) → j < i → get_or list j 64 ≡ get_or (worst_words counts) j 64
  pub empty : (j : ℕ) → i ≤ j → get_or list j 64 ≡ 64
  pub rest : drop i (worst_words counts) ≡ worst_from (8 - i) counts listed

none_listed : (n j : ℕ) → ◌≡◌ {A = ℕ} (get_or (replicate n 64) j 64) 64
none_listed zero j = refl
none_listed (suc n) zero = refl
none_listed (suc n) (suc j) = none_listed n j

module _ (counts : Counts) where
  pub listed_start : Listed counts 0 (replicate 64 false) (replicate 8 64)
  listed_start =
      record {
        within = omega arith;
        marks = length-replicate 64 false;
        long = length-replicate {A = ℕ} 8 64;
        done = λ j h. absurd (not-suc-le-zero h);
        empty = λ j h. none_listed 8 j;
        rest = from_marks counts;
      }

  all_long : length (worst_words counts) ≡ 8
  unfolding worst_words
  all_long = from_long 8 counts (replicate 65 false)

  module _ (i : ℕ) (listed : List Bool) (list : List ℕ) (so_far : Listed counts i listed list) where
    module _ (h : i < 8) where
      -- place i and those after it
      split : get_or (worst_words counts) i 64 ∷ drop (suc i) (worst_words counts)
          ≡ first_open counts listed 64 ∷ worst_from (7 - i) counts (set listed (first_open counts listed 64) true)
      unfolding worst_from
      split =
          let e : 8 - i ≡ suc (7 - i) = omega arith in
          sym (drop-cons (worst_words counts) i 64 (omega (arith, all_long))) ∙ so_far.rest ∙ ap (λ (n : ℕ). worst_from n counts listed) e

      pub listed_next : (k : ℕ) → k ≡ first_open counts listed 64 → Listed counts (i + 1) (set listed k true) (set list i k)
      listed_next k e =
          let place : get_or (worst_words counts) i 64 ≡ first_open counts listed 64 = (cc split) in
          let others : drop (suc i) (worst_words counts) ≡ worst_from (7 - i) counts (set listed (first_open counts listed 64) true) = (cc split) in
          let n : 8 - suc i ≡ 7 - i = omega arith in
          record {
            within = omega arith;
            marks = length-set listed k true ∙ so_far.marks;
            long = length-set list i k ∙ so_far.long;
            done = λ j l. go j l (ℕ_discrete j i) place;
            empty = λ j l. get_or-set_other list i j k 64 (λ q. omega (arith, q)) ∙ so_far.empty j (omega arith);
            rest = rw (add-one, n, e) others;
          }
        where
          go : (j : ℕ) → j < i + 1 → Dec (j ≡ i) → get_or (worst_words counts) i 64 ≡ first_open counts listed 64 →
              get_or (set list i k) j 64 ≡ get_or (worst_words counts) j 64
          go j l (yes q) place = rw q (get_or-set_same list i k 64 (omega (arith, so_far.long)) ∙ e ∙ sym place)
          go j l (no f) place = get_or-set_other list i j k 64 f ∙ so_far.done j (omega (arith, f))

    -- all places are listed, or none can be listed
    ended : ((j : ℕ) → i ≤ j → j < 8 → get_or (worst_words counts) j 64 ≡ 64) → list ≡ worst_words counts
    ended others = ext_get_or 64 list (worst_words counts) (so_far.long ∙ sym all_long) (λ j h. go j (omega (arith, h, so_far.long)) (dec_lt j i))
      where
        go : (j : ℕ) → j < 8 → Dec (j < i) → get_or list j 64 ≡ get_or (worst_words counts) j 64
        go j h (yes l) = so_far.done j l
        go j h (no g) = so_far.empty j (omega arith) ∙ sym (others j (omega arith) h)

    pub listed_end : 8 ≤ i → list ≡ worst_words counts
    listed_end h = ended (λ j g l. absurd (omega arith))

    pub listed_none : 64 ≡ first_open counts listed 64 → list ≡ worst_words counts
    listed_none none =
        ended (λ j g l.
        let e : i + (j - i) ≡ j = omega arith in
        ap (λ (n : ℕ). get_or (worst_words counts) n 64) (sym e)
        ∙ sym (get_or-drop i (worst_words counts) (j - i) 64)
        ∙ ap (λ (rest : List ℕ). get_or rest (j - i) 64) so_far.rest
        ∙ none_left counts listed (omega (arith, so_far.marks)) none (8 - i) (j - i))
