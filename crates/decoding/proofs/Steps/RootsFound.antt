-- The roots that are found are kept and divided out: a law for each way through a function and for each step of a loop. Assumes nothing.
use mathlib.Core.Path.{◌≡◌, refl, sym, ap, ap₂, ◌∙◌}
use mathlib.Core.Bool.{Bool, true, false, cond}
use mathlib.Core.List.{List, ◌∷◌}
use Prim.Native.Nat.{ℕ, zero, suc, ◌+◌, ◌-◌, ◌≤◌, ◌<◌}
use native.Mathlib.Decide.{dec_lt}
use native.Mathlib.Nat.{le_refl, not-suc-le-zero, zero-add}
use native.Mathlib.Numerals.{add-one}
use native.Mathlib.Omega.{arith}
use borrow.Author.Tests.{eq-eqb, ne_eqb, lt-ltb, le-ltb}
use lib.Dec.{ltb}
use lib.ListN.{length, get_or, set, length-set}
use lib.Seq.{get_or-set_same, get_or-set_other}
use Rattle.std.specs.Prelude.{Option, unwrap_or, MatchOption, IfSome}
use Rattle.std.specs.declared.option.Option.TheVariants.{None, Some}
use Rattle.fields.specs.Elements.{xor}
use Rattle.fields.specs.Steps.ByTables.{table_product}
use Rattle.fields.specs.Places.{at, horner}
use Rattle.fields.proofs.Lists.{tabulate_length}
use Rattle.fields.proofs.Places.Filling.{FilledOver, filled_end}
use Rattle.decoding.specs.declared.root_search.Places.{Places}
use Rattle.decoding.specs.Steps.ByTables.{table_value}
use Rattle.decoding.specs.Steps.Decoder.{Tables, locator}
use Rattle.decoding.specs.Steps.RootSearch.{root_places, backwards, kept, Roots, RootAt, FirstRoot, quotient_of}
use Rattle.decoding.proofs.Decoding.Search.{quotient_in, root_stays, root_was}

-- ---- the quotient

-- the value at r of the first k coefficients
unfoldable pub value_of_first : List ℕ → List ℕ → List ℕ → ℕ → ℕ → ℕ
value_of_first es ls v r k = horner (λ u. table_product es ls u r) (at v) k

module _ (es ls v : List ℕ) (r : ℕ) where
  pub first_none : 0 ≡ value_of_first es ls v r 0
  unfolding value_of_first horner
  first_none = refl

  pub first_next : (k u p w : ℕ) → u ≡ value_of_first es ls v r k → p ≡ table_product es ls u r → w ≡ xor p (get_or v k 0) → w ≡ value_of_first es ls v r (k + 1)
  unfolding value_of_first horner
  first_next k u p w eu ep ew = rw (add-one, ← eu, ← ep) ew

  -- where the coefficients are stored over those of v
  pub first_over : (k u p w : ℕ) (c : List ℕ) → FilledOver 9 (value_of_first es ls v r) v k c → u ≡ value_of_first es ls v r k → p ≡ table_product es ls u r →
      w ≡ xor p (get_or c k 0) → w ≡ value_of_first es ls v r (k + 1)
  first_over k u p w c F eu ep ew = first_next k u p w eu ep (ew ∙ ap (xor p) (F.ahead k (le_refl k)))

  quotient_long : length (quotient_of es ls v r) ≡ 9
  unfolding quotient_of
  quotient_long = tabulate_length 9 _

  pub quotient_end : (k : ℕ) (c : List ℕ) → FilledOver 9 (value_of_first es ls v r) v k c → 9 ≤ k → c ≡ quotient_of es ls v r
  unfolding value_of_first quotient_of
  quotient_end k c F h = filled_end F.filled h

-- ---- the roots

module _ (i : ℕ) (p : Places) where
  pub kept_full : 8 ≤ p.count → p ≡ kept i p
  unfolding kept
  kept_full h = rw (le-ltb p.count 8 h)

  pub kept_new : p.count < 8 → record { at = set p.at p.count i; count = p.count + 1 } ≡ kept i p
  unfolding kept
  kept_new h = rw (lt-ltb p.count 8 h)

  pub kept_long : length p.at ≡ 8 → length (kept i p).at ≡ 8
  unfolding kept
  kept_long long = go (ltb p.count 8)
    where
      go : (b : Bool) → length (cond b (record { at = set p.at p.count i; count = p.count + 1 }) p).at ≡ 8
      go false = long
      go true = length-set p.at p.count i ∙ long

-- the first k entries, backwards: how many, and what a later one that is stored changes in them
backwards_length : (l : List ℕ) (k : ℕ) → length (backwards l k) ≡ k
unfolding backwards
backwards_length l zero = refl
backwards_length l (suc k) = ap suc (backwards_length l k)

backwards_set : (l : List ℕ) (c i k : ℕ) → k ≤ c → backwards (set l c i) k ≡ backwards l k
unfolding backwards
backwards_set l c i zero h = refl
backwards_set l c i (suc k) h = ap₂ (λ (a : ℕ) (r : List ℕ). a ∷ r) (get_or-set_other l c k i 0 (λ e. omega arith)) (backwards_set l c i k (omega arith))

pub roots_none : (es ls v : List ℕ) (n : ℕ) (places : List ℕ) → Roots es ls v n 0 places 0
unfolding backwards root_places
roots_none es ls v n places =
    record { few = omega arith; below = λ k h. absurd (not-suc-le-zero h); ascending = λ k l h b. absurd (not-suc-le-zero b); all = λ h. refl }

module _ (es ls v : List ℕ) (n i : ℕ) (p : Places) (so_far : Roots es ls v n i p.at p.count) where
  -- nothing is kept, and the roots are the same unless there are more than eight
  stays : (length (root_places es ls v n (suc i)) ≤ 8 → root_places es ls v n (suc i) ≡ root_places es ls v n i) → Roots es ls v n (suc i) p.at p.count
  stays h =
      record {
        few = so_far.few;
        below = λ k b. omega (arith, so_far.below k b);
        ascending = so_far.ascending;
        all = λ l. let e = h l in so_far.all (rw e at l) ∙ sym e;
      }

  -- place i is kept
  grows : length p.at ≡ 8 → p.count < 8 → root_places es ls v n (suc i) ≡ i ∷ root_places es ls v n i →
      Roots es ls v n (suc i) (set p.at p.count i) (p.count + 1)
  unfolding backwards
  grows long room e =
      record {
        few = omega arith;
        below = λ k h. below' k h (dec_lt k p.count);
        ascending = λ k l h b. ascending' k l h b (dec_lt l p.count);
        all = λ h. rw (add-one, last, backwards_set p.at p.count i p.count (le_refl p.count), e)
            (ap (λ (r : List ℕ). i ∷ r) (so_far.all (omega (arith, rw e at h))));
      }
    where
      places : List ℕ
      places = set p.at p.count i

      before : (k : ℕ) → k < p.count → at places k ≡ at p.at k
      before k h = get_or-set_other p.at p.count k i 0 (λ q. omega arith)

      last : at places p.count ≡ i
      last = get_or-set_same p.at p.count i 0 (omega arith)

      after : (k : ℕ) → k < p.count + 1 → ¬ (k < p.count) → at places k ≡ i
      after k h g = let q : k ≡ p.count = omega arith in rw q last

      below' : (k : ℕ) → k < p.count + 1 → Dec (k < p.count) → at places k < suc i
      below' k h (yes b) = rw (before k b) (omega (arith, so_far.below k b))
      below' k h (no b) = rw (after k h b) (le_refl (suc i))

      ascending' : (k l : ℕ) → k < l → l < p.count + 1 → Dec (l < p.count) → at places k < at places l
      ascending' k l h b (yes y) = rw (before k (omega arith), before l y) (so_far.ascending k l h y)
      ascending' k l h b (no y) = rw (before k (omega arith), after l b y) (so_far.below k (omega arith))

  pub roots_kept : length p.at ≡ 8 → RootAt es ls v n i → Roots es ls v n (suc i) (kept i p).at (kept i p).count
  unfolding root_places
  roots_kept long z = go (dec_lt p.count 8)
    where
      go : Dec (p.count < 8) → Roots es ls v n (suc i) (kept i p).at (kept i p).count
      go (yes room) = rw (← kept_new i p room) (grows long room (rw (eq-eqb _ 0 z)))
      go (no full) =
          rw (← kept_full i p (omega arith)) (stays (λ h. absurd (
          let b : suc (length (root_places es ls v n i)) ≤ 8 = rw (eq-eqb (table_value es ls v (locator es n i)) 0 z) at h in
          omega (arith, backwards_length p.at p.count, ap length (so_far.all (omega arith))))))

  pub roots_other : ¬ RootAt es ls v n i → Roots es ls v n (suc i) p.at p.count
  unfolding root_places
  roots_other z = stays (λ h. rw (ne_eqb (table_value es ls v (locator es n i)) 0 z))

-- places that are no roots are passed
roots_pass : (es ls v : List ℕ) (n i : ℕ) (p : Places) → Roots es ls v n i p.at p.count → (d : ℕ) →
    ((k : ℕ) → i ≤ k → k < i + d → ¬ RootAt es ls v n k) → Roots es ls v n (i + d) p.at p.count
roots_pass es ls v n i p R zero none = let q : i + 0 ≡ i = omega arith in rw q R
roots_pass es ls v n i p R (suc d) none =
    let q : i + suc d ≡ suc (i + d) = omega arith in
    rw q (roots_other es ls v n (i + d) p (roots_pass es ls v n i p R d (λ k lo hi. none k lo (omega arith))) (none (i + d) (omega arith) (omega arith)))

-- where the search stands: the roots of v before i are kept, i is the next one or n, and from there on w, a quotient of v, has the same roots
pub record Searching (es ls v : List ℕ) (n i : ℕ) (p : Places) (w : List ℕ) : Type 0 where
  pub most : i ≤ n
  pub found : Roots es ls v n i p.at p.count
  pub long : (length p.at ≡ 8) × (length w ≡ 9)
  pub elements : (k : ℕ) → at w k < length ls
  pub here : i < n → RootAt es ls w n i
  pub stay : (k : ℕ) → i ≤ k → k < n → RootAt es ls v n k → RootAt es ls w n k
  pub were : (k : ℕ) → i ≤ k → k < n → RootAt es ls w n k → RootAt es ls v n k

pub search_none : (es ls v : List ℕ) (n i : ℕ) (places : List ℕ) → length places ≡ 8 → length v ≡ 9 → ((k : ℕ) → at v k < length ls) → FirstRoot es ls v n 0 i →
    Searching es ls v n i (record { at = places; count = 0 }) v
search_none es ls v n i places eight nine elements F =
    record {
      most = F.most;
      found = rw zero-add at (roots_pass es ls v n 0 (record { at = places; count = 0 }) (roots_none es ls v n places) i (λ k lo hi. F.before k lo (omega arith)));
      long = (eight, nine);
      elements = elements;
      here = F.here;
      stay = λ k lo hi z. z;
      were = λ k lo hi z. z;
    }

module _ (es ls v : List ℕ) (n i : ℕ) (p : Places) (w : List ℕ) (S : Searching es ls v n i p w) where
  pub search_elements : Tables es ls → (x : ℕ) (u : List ℕ) → u ≡ quotient_of es ls w x → (k : ℕ) → at u k < length ls
  search_elements T x u e k = rw e (quotient_in es ls T n w S.elements S.long.1 x k)

  pub search_next : Tables es ls → n ≤ length es → i < n → (q : Places) (x : ℕ) (u : List ℕ) (r : ℕ) → q ≡ kept i p → x ≡ locator es n i → u ≡ quotient_of es ls w x →
      FirstRoot es ls u n (i + 1) r → Searching es ls v n r q u
  search_next T fits h q x u r eq ex eu F =
      rw (eq, eu, ex) (record {
        most = F.most;
        found = rw passed at (roots_pass es ls v n (suc i) (kept i p) (roots_kept es ls v n i p S.found S.long.0 (S.were i (le_refl i) h root)) (r - suc i)
            (λ k lo hi z. first.before k (omega arith) (omega arith) (still k (omega arith) (omega (arith, F.most)) z)));
        long = (kept_long i p S.long.0, quotient_long es ls w (locator es n i));
        elements = quotient_in es ls T n w S.elements S.long.1 (locator es n i);
        here = first.here;
        stay = λ k lo hi z. still k (omega (arith, F.from)) hi z;
        were = λ k lo hi z. S.were k (omega (arith, F.from)) hi (root_was es ls T n w S.elements S.long.1 fits i root k (omega (arith, F.from)) hi z);
      })
    where
      root : RootAt es ls w n i
      root = S.here h

      first : FirstRoot es ls (quotient_of es ls w (locator es n i)) n (i + 1) r
      first = rw (eu, ex) at F

      passed : suc i + (r - suc i) ≡ r
      passed = omega (arith, F.from)

      still : (k : ℕ) → i < k → k < n → RootAt es ls v n k → RootAt es ls (quotient_of es ls w (locator es n i)) n k
      still k lo hi z = root_stays es ls T n w S.elements S.long.1 fits i root k lo hi (S.stay k (omega arith) hi z)

  pub search_end : n ≤ i → Roots es ls v n n p.at p.count
  search_end h = let e : i ≡ n = omega (arith, S.most) in rw e at S.found

-- ---- the next root, if there is one

-- its place, or n
abbrev pub place_of : ℕ → Option ℕ → ℕ
place_of n next = unwrap_or next n

-- how many places are left to search
abbrev pub places_left : ℕ → Option ℕ → ℕ
places_left n None = 0
places_left n (Some i) = suc n - i

-- what the search for the next root gives
abbrev pub NextRoot : List ℕ → List ℕ → List ℕ → ℕ → ℕ → Option ℕ → Type 0
NextRoot es ls v n i next = MatchOption next (FirstRoot es ls v n i n) (λ r. (r < n) × FirstRoot es ls v n i r)

next_first : (es ls v : List ℕ) (n i : ℕ) (next : Option ℕ) → NextRoot es ls v n i next → FirstRoot es ls v n i (place_of n next)
next_first es ls v n i None F = F
next_first es ls v n i (Some r) F = F.1

next_below : (es ls v : List ℕ) (n i : ℕ) (next : Option ℕ) → NextRoot es ls v n i next → IfSome next (λ r. r < n)
next_below es ls v n i None F = tt
next_below es ls v n i (Some r) F = F.0

-- where the search stands
pub record Standing (es ls v : List ℕ) (n : ℕ) (next : Option ℕ) (p : Places) (w : List ℕ) : Type 0 where
  pub searching : Searching es ls v n (place_of n next) p w
  pub below : IfSome next (λ r. r < n)

pub standing_none : (es ls v : List ℕ) (n : ℕ) (next : Option ℕ) (places : List ℕ) → length places ≡ 8 → length v ≡ 9 → ((k : ℕ) → at v k < length ls) → NextRoot es ls v n 0 next →
    Standing es ls v n next (record { at = places; count = 0 }) v
standing_none es ls v n next places eight nine elements F =
    record {
      searching = search_none es ls v n (place_of n next) places eight nine elements (next_first es ls v n 0 next F);
      below = next_below es ls v n 0 next F;
    }

module _ (es ls v : List ℕ) (n i : ℕ) (last : Option ℕ) (is : last ≡ Some i) (p : Places) (w : List ℕ) (so_far : Standing es ls v n last p w) where
  S : Standing es ls v n (Some i) p w
  S = rw is at so_far

  pub standing_elements : Tables es ls → (x : ℕ) (u : List ℕ) → u ≡ quotient_of es ls w x → (k : ℕ) → at u k < length ls
  standing_elements = search_elements es ls v n i p w S.searching

  pub standing_next : Tables es ls → n ≤ length es → (q : Places) (x : ℕ) (u : List ℕ) (next : Option ℕ) → q ≡ kept i p → x ≡ locator es n i → u ≡ quotient_of es ls w x →
      NextRoot es ls u n (i + 1) next → Standing es ls v n next q u
  standing_next T fits q x u next eq ex eu F =
      record {
        searching = search_next es ls v n i p w S.searching T fits S.below q x u (place_of n next) eq ex eu (next_first es ls u n (i + 1) next F);
        below = next_below es ls u n (i + 1) next F;
      }

pub standing_end : (es ls v : List ℕ) (n : ℕ) (p : Places) (w : List ℕ) → Standing es ls v n None p w → Roots es ls v n n p.at p.count
standing_end es ls v n p w S = search_end es ls v n n p w S.searching (le_refl n)
