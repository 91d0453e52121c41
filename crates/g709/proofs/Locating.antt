-- Polynomials side by side: one is stored, and the places where it has roots are read from the columns of values. Assumes nothing.
use mathlib.Core.Path.{◌≡◌, refl, sym, ap, ◌∙◌}
use mathlib.Core.Bool.{Bool, cond}
use mathlib.Core.List.{List}
use Prim.Native.Nat.{ℕ, suc, ◌+◌, ◌-◌, ◌*◌, ◌/◌, ◌%◌, ◌≤◌, ◌<◌, zero-le}
use native.Mathlib.Decide.{ℕ_discrete}
use native.Mathlib.Nat.{not-suc-le-zero}
use native.Mathlib.Omega.{arith}
use borrow.Author.Tests.{eq-eqb, ne_eqb}
use lib.Dec.{eqb}
use lib.ListN.{length, set, length-set}
use lib.Seq.{get_or-set_same, get_or-set_other}
use Rattle.fields.specs.Lists.{tabulate}
use Rattle.fields.specs.Elements.{powers_c, exponents_c}
use Rattle.fields.specs.Steps.ByTables.{table_power}
use Rattle.fields.specs.Places.{at}
use Rattle.fields.proofs.Instances.{field_c}
use Rattle.fields.proofs.Lists.{tabulate_at, tabulate_is, tabulate_length, tabulate_same}
use Rattle.decoding.specs.declared.root_search.Places.{Places}
use Rattle.decoding.specs.Steps.ByTables.{table_value}
use Rattle.decoding.specs.Steps.Decoder.{locator}
use Rattle.decoding.specs.Steps.Annihilator.{Annihilates}
use Rattle.decoding.specs.Steps.RootSearch.{kept}
use Rattle.decoding.specs.Steps.ErrorValues.{Located}
use Rattle.decoding.proofs.Algebra.Tables.{exponents_length}
use Rattle.decoding.proofs.Steps.PowerTables.{keep_few}
use Rattle.decoding.proofs.Steps.RootsFound.{kept_long, roots_none, roots_kept, roots_other}
use Rattle.g709.specs.Steps.Restoring.{lane_of}
use Rattle.g709.specs.Steps.RootColumns.{polynomial_of, value_at_power, column_values}
use Rattle.g709.specs.Steps.Locating.{polynomial_stored, LocatorAt, LocatorsTo, LocatorSet, LocatorValues, PlacesTo}

-- ---- a polynomial is stored

-- the invariant: the first d coefficients of polynomial k are stored, and all other places hold what they held
pub record StoredTo (l : List ℕ) (k : ℕ) (v : List ℕ) (d : ℕ) (o : List ℕ) : Type 0 where
  pub long : length o ≡ length l
  pub within : d ≤ 9
  pub done : (i : ℕ) → i < d → at o (16 * i + k) ≡ at v i
  pub others : (i : ℕ) → (i % 16 ≡ k → i / 16 < d → ⊥) → at o i ≡ at l i

pub stored_start : (l : List ℕ) (k : ℕ) (v : List ℕ) → StoredTo l k v 0 l
stored_start l k v = record { long = refl; within = zero-le; done = λ i h. absurd (not-suc-le-zero h); others = λ i n. refl }

module _ (l : List ℕ) (k : ℕ) (v : List ℕ) (hk : k < 16) (full : length l ≡ 144) where
  pub stored_next : (d x : ℕ) (o : List ℕ) → StoredTo l k v d o → d < 9 → x ≡ at v d → StoredTo l k v (d + 1) (set o (16 * d + k) x)
  stored_next d x o S h e =
      record {
        long = length-set o (16 * d + k) x ∙ S.long;
        within = omega arith;
        done = λ i g. go i g (ℕ_discrete i d);
        others = λ i n. get_or-set_other o (16 * d + k) i x 0 (λ q. n (omega arith) (omega arith)) ∙ S.others i (λ m b. n m (omega arith));
      }
    where
      go : (i : ℕ) → i < d + 1 → Dec (i ≡ d) → at (set o (16 * d + k) x) (16 * i + k) ≡ at v i
      go i g (yes q) = rw q (get_or-set_same o (16 * d + k) x 0 (omega (arith, S.long)) ∙ e)
      go i g (no q) = get_or-set_other o (16 * d + k) (16 * i + k) x 0 (λ z. q (omega arith)) ∙ S.done i (omega (arith, q))

  pub stored_end : (d : ℕ) (o : List ℕ) → StoredTo l k v d o → 9 ≤ d → o ≡ polynomial_stored l k v
  unfolding polynomial_stored
  stored_end d o S h = tabulate_is (length l) _ o 0 S.long (λ i b. go i b (ℕ_discrete (i % 16) k))
    where
      go : (i : ℕ) → i < length l → Dec (i % 16 ≡ k) → at o i ≡ cond (eqb (i % 16) k) (at v (i / 16)) (at l i)
      go i b (yes e) =
          let there : i ≡ 16 * (i / 16) + k = omega arith in
          rw (eq-eqb (i % 16) k e) (ap (at o) there ∙ S.done (i / 16) (omega arith))
      go i b (no n) = rw (ne_eqb (i % 16) k n) (S.others i (λ e m. n e))

  pub stored_here : length v ≡ 9 → polynomial_of (polynomial_stored l k v) k ≡ v
  unfolding polynomial_of polynomial_stored
  stored_here nine = sym (tabulate_is 9 _ v 0 nine (λ d b. sym (there d b)))
    where
      there : (d : ℕ) → d < 9 → at (tabulate (length l) (λ i. cond (eqb (i % 16) k) (at v (i / 16)) (at l i))) (16 * d + k) ≡ at v d
      there d b =
          let m : (16 * d + k) % 16 ≡ k = omega arith in
          let q : (16 * d + k) / 16 ≡ d = omega arith in
          tabulate_at (length l) _ (16 * d + k) 0 (omega arith) ∙ rw (eq-eqb ((16 * d + k) % 16) k m, q)

  pub stored_other : (j : ℕ) → j < 16 → (j ≡ k → ⊥) → polynomial_of (polynomial_stored l k v) j ≡ polynomial_of l j
  unfolding polynomial_of polynomial_stored
  stored_other j hj n =
      tabulate_same 9 _ _ (λ d b.
      let m : (16 * d + j) % 16 ≡ j = omega arith in
      tabulate_at (length l) _ (16 * d + j) 0 (omega arith) ∙ rw (ne_eqb ((16 * d + j) % 16) k (λ e. n (sym m ∙ e))))

-- ---- the locator polynomials

pub byte_coefficients : (es ls t v : List ℕ) → ls ≡ exponents_c → Annihilates es ls t v → (d : ℕ) → at v d < 256
byte_coefficients es ls t v log A d = omega (arith, A.elements d, ap length log, exponents_length 8 285 field_c)

pub locator_set : (es ls s before terms t v : List ℕ) (k : ℕ) → es ≡ powers_c → ls ≡ exponents_c → k < 16 → length before ≡ 144 → t ≡ lane_of s k → Annihilates es ls t v →
    terms ≡ polynomial_stored before k v → length terms ≡ 144 → length v ≡ 9 → LocatorSet s k before terms
locator_set es ls s before terms t v k exp log hk full et A e long nine =
    let A' : Annihilates powers_c exponents_c (lane_of s k) v = rw (et, exp, log) at A in
    record {
      long = long;
      here = rw (e, stored_here before k v hk full nine) A';
      others = λ j hj n. ap (λ (l : List ℕ). polynomial_of l j) e ∙ stored_other before k v hk full j hj n;
    }

pub locators_start : (rest terms : List ℕ) → LocatorsTo rest 0 terms
locators_start rest terms = record { each = λ k h. absurd (not-suc-le-zero h) }

pub locators_next : (rest terms next : List ℕ) (k : ℕ) → k < 16 → LocatorsTo rest k terms → LocatorSet rest k terms next → LocatorsTo rest (k + 1) next
locators_next rest terms next k hk L S = record { each = λ j h. go j h (ℕ_discrete j k) }
  where
    go : (j : ℕ) → j < k + 1 → Dec (j ≡ k) → LocatorAt rest next j
    go j h (yes e) = rw e S.here
    go j h (no n) = rw (S.others j (omega arith) n) (L.each j (omega (arith, n)))

pub locators_end : (rest terms : List ℕ) (k : ℕ) → LocatorsTo rest k terms → 16 ≤ k → LocatorsTo rest 16 terms
locators_end rest terms k L h = record { each = λ j b. L.each j (omega arith) }

pub locator_values : (rest terms values : List ℕ) → LocatorsTo rest 16 terms → values ≡ column_values terms → LocatorValues rest values
locator_values rest terms values L e = record { terms = terms; locators = L; values_are = e }

-- ---- the places of their roots

column_at : (terms : List ℕ) (k e : ℕ) → k < 16 → e < 255 → at (column_values terms) (16 * e + k) ≡ table_value powers_c exponents_c (polynomial_of terms k) (table_power powers_c e)
unfolding column_values value_at_power
column_at terms k e hk he =
    let m : (16 * e + k) % 16 ≡ k = omega arith in
    let q : (16 * e + k) / 16 ≡ e = omega arith in
    tabulate_at 4080 _ (16 * e + k) 0 (omega arith) ∙ rw (q, m)

place_value : (terms values : List ℕ) (k i : ℕ) → k < 16 → i < 255 → values ≡ column_values terms →
    table_value powers_c exponents_c (polynomial_of terms k) (locator powers_c 255 i) ≡ at values (16 * (254 - i) + k)
unfolding locator
place_value terms values k i hk hi e =
    let n : 255 - suc i ≡ 254 - i = omega arith in
    ap (λ (x : ℕ). table_value powers_c exponents_c (polynomial_of terms k) (table_power powers_c x)) n
    ∙ sym (ap (λ (l : List ℕ). at l (16 * (254 - i) + k)) e ∙ column_at terms k (254 - i) hk (omega arith))

-- the invariant: the places among the first i are kept
pub record Placing (values : List ℕ) (k i : ℕ) (p : Places) : Type 0 where
  pub most : i ≤ 255
  pub few : p.count ≤ 8
  pub long : length p.at ≡ 8
  pub found : PlacesTo values k i p.at p.count

pub placing_start : (values : List ℕ) (k : ℕ) (places : List ℕ) → length places ≡ 8 → Placing values k 0 (record { at = places; count = 0 })
placing_start values k places long =
    record { most = zero-le; few = zero-le; long = long; found = record { roots = λ terms e. roots_none powers_c exponents_c (polynomial_of terms k) 255 places } }

module _ (values : List ℕ) (k i : ℕ) (p : Places) (hk : k < 16) (P : Placing values k i p) (hi : i < 255) where
  keeps : (at values (16 * (254 - i) + k) ≡ 0) → (kept i p).count ≤ 8 → Placing values k (i + 1) (kept i p)
  keeps z few =
      let n : suc i ≡ i + 1 = omega arith in
      record {
        most = omega arith;
        few = few;
        long = kept_long i p P.long;
        found = record {
          roots = λ terms e.
              rw n at (roots_kept powers_c exponents_c (polynomial_of terms k) 255 i p (P.found.roots terms e) P.long (place_value terms values k i hk hi e ∙ z));
        };
      }

  passes : (at values (16 * (254 - i) + k) ≡ 0 → ⊥) → Placing values k (i + 1) p
  passes z =
      let n : suc i ≡ i + 1 = omega arith in
      record {
        most = omega arith;
        few = P.few;
        long = P.long;
        found = record {
          roots = λ terms e.
              rw n at (roots_other powers_c exponents_c (polynomial_of terms k) 255 i p (P.found.roots terms e) (λ q. z (sym (place_value terms values k i hk hi e) ∙ q)));
        };
      }

  pub placing_next : (v : ℕ) (r : Places) → v ≡ at values (16 * (254 - i) + k) → r ≡ cond (eqb v 0) (kept i p) p → r.count ≤ 8 → Placing values k (i + 1) r
  placing_next v r ev er few = go (ℕ_discrete v 0)
    where
      go : Dec (v ≡ 0) → Placing values k (i + 1) r
      go (yes z) =
          let q : r ≡ kept i p = er ∙ ap (λ (b : Bool). cond b (kept i p) p) (eq-eqb v 0 z) in
          rw q (keeps (sym ev ∙ z) (rw q at few))
      go (no z) =
          let q : r ≡ p = er ∙ ap (λ (b : Bool). cond b (kept i p) p) (ne_eqb v 0 z) in
          rw q (passes (λ y. z (ev ∙ y)))

pub placing_end : (values : List ℕ) (k i : ℕ) (p : Places) → Placing values k i p → 255 ≤ i → PlacesTo values k 255 p.at p.count
placing_end values k i p P h = let e : i ≡ 255 = omega (arith, P.most) in rw e at P.found

pub root_kept : (p r : Places) (v i : ℕ) → v ≡ 0 → r ≡ kept i p → p.count ≤ 8 → (r ≡ cond (eqb v 0) (kept i p) p) × (r.count ≤ 8)
root_kept p r v i e er few = (er ∙ sym (ap (λ (b : Bool). cond b (kept i p) p) (eq-eqb v 0 e)), keep_few i p r er few)

pub root_not : (p : Places) (v i : ℕ) → (v ≡ 0 → ⊥) → p.count ≤ 8 → (p ≡ cond (eqb v 0) (kept i p) p) × (p.count ≤ 8)
root_not p v i n few = (sym (ap (λ (b : Bool). cond b (kept i p) p) (ne_eqb v 0 n)), few)

polynomial_long : (terms : List ℕ) (k : ℕ) → length (polynomial_of terms k) ≡ 9
unfolding polynomial_of
polynomial_long terms k = tabulate_length 9 _

pub located : (es ls s values t : List ℕ) (k : ℕ) (places : List ℕ) (count : ℕ) → es ≡ powers_c → ls ≡ exponents_c → k < 16 → LocatorValues s values → t ≡ lane_of s k →
    PlacesTo values k 255 places count → Located es ls t 255 places count
located es ls s values t k places count exp log hk L et P =
    rw (et, exp, log) (record {
      polynomial = polynomial_of L.terms k;
      long = polynomial_long L.terms k;
      annihilates = L.locators.each k hk;
      roots = P.roots L.terms L.values_are;
    })
