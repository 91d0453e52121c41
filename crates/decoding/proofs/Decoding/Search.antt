-- The search for the roots: the terms of a polynomial move from place to place by their exponents, and a root that is found is divided out. Assumes nothing.
use mathlib.Core.Path.{◌≡◌, refl, sym, ap, ap₂, ◌∙◌}
use mathlib.Core.Bool.{cond}
use mathlib.Core.List.{List}
use Prim.Native.Nat.{ℕ, zero, suc, ◌+◌, ◌-◌, ◌%◌, ◌≤◌, ◌<◌, zero-le}
use native.Mathlib.Decide.{ℕ_discrete, dec_lt}
use native.Mathlib.Nat.{add-mod_right, le_refl, not-suc-le-zero, zero-add}
use native.Mathlib.Numerals.{add-one}
use native.Mathlib.Omega.{arith}
use borrow.Author.Tests.{eq-eqb, ne_eqb, lt-ltb, le-ltb}
use lib.Dec.{eqb, ltb}
use Rattle.std.proofs.lemmas.List.{length-map}
use Rattle.std.proofs.Math.ListN.{get_or-map}
use lib.ListN.{length, get_or, set, length-set}
use lib.Seq.{get_or-set_same, get_or-set_other}
use Rattle.fields.specs.Elements.{xor}
use Rattle.fields.specs.Steps.ByTables.{table_product, table_inverse, table_power}
use Rattle.fields.specs.Places.{at}
use Rattle.fields.proofs.Lists.{tabulate_at, tabulate_length, tabulate_lt}
use Rattle.decoding.specs.declared.root_search.Term.{Term}
use Rattle.decoding.specs.declared.root_search.Terms.{Terms}
use Rattle.decoding.specs.Steps.ByTables.{table_value}
use Rattle.decoding.specs.Steps.Decoder.{Tables, locator, xor_to, times_power}
use Rattle.decoding.specs.Steps.RootSearch.{add_term, with_term, terms_to, exponents_of, steps_of, Exponents, powers_to, less_modulo, lowered, RootAt, quotient_of}
use Rattle.decoding.proofs.Algebra.Field.{Ops, Laws, add-zero, mul_left, undo}
use Rattle.decoding.proofs.Algebra.PowerSums.{value_at, value_in, value_same}
use Rattle.decoding.proofs.Algebra.Locators.{value_first, quotient_root, root_quotient}
use Rattle.decoding.proofs.Algebra.Elements.{is_zero}
use Rattle.decoding.proofs.Algebra.Tables.{table_ops, Powers, table_laws, table_powers, table_exponent, table_power_sum, table_power_at, xor_to_same, table_value_lem, table_value_is, times_power_in, times_power_zero}
use Rattle.decoding.proofs.Decoding.RootPlaces.{locator_in, locators_distinct}

-- ---- exponents modulo n

pub less_lt : (n e d : ℕ) → e < n → d < n → less_modulo n e d < n
unfolding less_modulo
less_lt n e d he hd = go (dec_lt e d)
  where
    go : Dec (e < d) → cond (ltb e d) (e + (n - d)) (e - d) < n
    go (yes h) = rw (lt-ltb e d h) (omega arith)
    go (no h) = rw (le-ltb e d (omega arith)) (omega arith)

less_sum : (n e d : ℕ) → d < n → (d + less_modulo n e d) % n ≡ e % n
unfolding less_modulo
less_sum n e d hd = go (dec_lt e d)
  where
    go : Dec (e < d) → (d + cond (ltb e d) (e + (n - d)) (e - d)) % n ≡ e % n
    go (yes h) = let q : d + (e + (n - d)) ≡ e + n = omega arith in rw (lt-ltb e d h, q) (add-mod_right e n)
    go (no h) = let q : d + (e - d) ≡ e = omega arith in rw (le-ltb e d (omega arith), q)

-- the list with the first k exponents lowered: its length, the others, and these
pub lowered_long : (n : ℕ) (e s : List ℕ) (k : ℕ) → length (lowered n e s k) ≡ length e
unfolding lowered
lowered_long n e s zero = refl
lowered_long n e s (suc k) = length-set (lowered n e s k) k _ ∙ lowered_long n e s k

pub lowered_other : (n : ℕ) (e s : List ℕ) (k l : ℕ) → k ≤ l → at (lowered n e s k) l ≡ at e l
unfolding lowered
lowered_other n e s zero l h = refl
lowered_other n e s (suc k) l h = get_or-set_other (lowered n e s k) k l _ 0 (λ q. omega arith) ∙ lowered_other n e s k l (omega arith)

lowered_at : (n : ℕ) (e s : List ℕ) (k l : ℕ) → k ≤ length e → l < k → at (lowered n e s k) l ≡ less_modulo n (at e l) (at s l)
unfolding lowered
lowered_at n e s zero l r h = absurd (not-suc-le-zero h)
lowered_at n e s (suc k) l r h = go (ℕ_discrete l k) (lowered_at n e s k l (omega arith))
  where
    go : Dec (l ≡ k) → (l < k → at (lowered n e s k) l ≡ less_modulo n (at e l) (at s l)) →
        at (set (lowered n e s k) k (less_modulo n (at e k) (at s k))) l ≡ less_modulo n (at e l) (at s l)
    go (yes q) before = rw q (get_or-set_same (lowered n e s k) k _ 0 (omega (arith, lowered_long n e s k)))
    go (no q) before = get_or-set_other (lowered n e s k) k l _ 0 q ∙ before (omega arith)

pub lowered_in : (es e s : List ℕ) (k : ℕ) → Exponents es k e → Exponents es k s → Exponents es k (lowered (length es) e s k)
lowered_in es e s k E S =
    record {
      long = rw lowered_long E.long;
      inside = λ l h. rw (lowered_at (length es) e s k l E.long h) (less_lt (length es) (at e l) (at s l) (E.inside l h) (S.inside l h));
    }

-- ---- the terms

-- the value, k places on, of a term of exponent e and step s
unfoldable pub fallen : List ℕ → List ℕ → ℕ → ℕ → ℕ → ℕ
fallen es ls k e s = times_power (table_product es ls) (table_inverse es ls (at es s)) (at es e) k

-- the terms are those of v at place j: k places on, their sum is the value of v there
pub record Walk (es ls v : List ℕ) (n j : ℕ) (e s : List ℕ) (count : ℕ) : Type 0 where
  pub values : (k : ℕ) → j + k < n → xor_to count (λ l. fallen es ls k (at e l) (at s l)) ≡ table_value es ls v (locator es n (j + k))

abbrev pub no_term : Term
no_term = record { exponent = 0; step = 0 }

pub exponent_at : (terms : List Term) (l : ℕ) → at (exponents_of terms) l ≡ (get_or terms l no_term).exponent
exponent_at terms l = get_or-map (λ (t : Term). t.exponent) terms l no_term

pub step_at : (terms : List Term) (l : ℕ) → at (steps_of terms) l ≡ (get_or terms l no_term).step
step_at terms l = get_or-map (λ (t : Term). t.step) terms l no_term

-- the sum of the terms of degree below d
record Part (es ls v : List ℕ) (n j d : ℕ) (t : Terms) : Type 0 where
  pub few : t.count ≤ d
  pub long : length t.terms ≡ 9
  pub inside : (l : ℕ) → l < t.count → (at (exponents_of t.terms) l < length es) × (at (steps_of t.terms) l < length es)
  pub values : (k : ℕ) → j + k < n → xor_to t.count (λ l. fallen es ls k (at (exponents_of t.terms) l) (at (steps_of t.terms) l)) ≡
      value_at (table_ops es ls) (locator es n (j + k)) (λ i. at v (9 - d + i)) d

module _ (es ls : List ℕ) (T : Tables es ls) where
  abbrev O : Ops ℕ
  O = table_ops es ls

  K : Laws O (λ a. a < length ls)
  K = table_laws es ls T

  P : Powers es ls
  P = table_powers es ls T

  -- a quotient, from the product
  divide : {d y z : ℕ} → d < length ls → ¬ (d ≡ 0) → y < length ls → z ≡ table_product es ls d y → table_product es ls (table_inverse es ls d) z ≡ y
  divide {d} {y} {z} id nd iy e = ap (table_product es ls (table_inverse es ls d)) e ∙ undo O K iy id nd

  -- a lowered exponent is that of a quotient
  pub less_power_lem : (e d : ℕ) → e < length es → d < length es → table_product es ls (table_inverse es ls (at es d)) (at es e) ≡ at es (less_modulo (length es) e d)
  unfolding table_power
  less_power_lem e d he hd =
      let f = less_modulo (length es) e d in
      let sum : table_power es e ≡ table_power es (d + f) = rw (less_sum (length es) e d hd) in
      rw (table_power_at es ls T e he, table_power_at es ls T d hd, table_power_at es ls T f (less_lt (length es) e d he hd))
      (divide (P.inside d) (P.nonzero d) (P.inside f) (sum ∙ table_power_sum es ls T d f))

  fallen_next : (k e s : ℕ) → e < length es → s < length es → fallen es ls k (less_modulo (length es) e s) s ≡ fallen es ls (suc k) e s
  unfolding fallen times_power
  fallen_next k e s he hs =
      let q = table_inverse es ls (at es s) in
      ap (λ (u : ℕ). times_power (table_product es ls) q u k) (sym (less_power_lem e s he hs)) ∙ times_power_in es ls q (at es e) k

  -- a term is nowhere zero
  fallen_not : (k e s : ℕ) → e < length es → s < length es → ¬ (fallen es ls k e s ≡ 0)
  unfolding fallen times_power
  fallen_not zero e s he hs z = P.nonzero e (sym (table_power_at es ls T e he) ∙ z)
  fallen_not (suc k) e s he hs z = fallen_not k (less_modulo (length es) e s) s (less_lt (length es) e s he hs) hs (fallen_next k e s he hs ∙ z)

  module _ (n : ℕ) where
    abbrev X : ℕ → ℕ
    X = locator es n

    module _ (v : List ℕ) (j : ℕ) (e s : List ℕ) (count : ℕ) (W : Walk es ls v n j e s count) where
      pub walk_value : (r : ℕ) → j < n → r ≡ powers_to es e count → r ≡ table_value es ls v (X j)
      unfolding powers_to fallen times_power
      walk_value r h q = let z : j + 0 ≡ j = omega arith in q ∙ W.values 0 (rw z h) ∙ ap (λ (i : ℕ). table_value es ls v (X i)) z

      -- a single term has no root
      pub walk_single : count ≡ 1 → Exponents es count e → Exponents es count s → (k : ℕ) → j ≤ k → k < n → ¬ RootAt es ls v n k
      unfolding xor_to
      walk_single one E S k lo hi z =
          let q : j + (k - j) ≡ k = omega arith in
          let single : xor_to count (λ l. fallen es ls (k - j) (at e l) (at s l)) ≡ fallen es ls (k - j) (at e 0) (at s 0) = rw one (K.zero-add _) in
          fallen_not (k - j) (at e 0) (at s 0) (E.inside 0 (omega arith)) (S.inside 0 (omega arith))
          (sym single ∙ W.values (k - j) (omega arith) ∙ ap (λ (i : ℕ). table_value es ls v (X i)) q ∙ z)

      pub walk_next : Exponents es count e → Exponents es count s → Walk es ls v n (j + 1) (lowered (length es) e s count) s count
      walk_next E S =
          record {
            values = λ k h.
                let a : j + suc k ≡ j + 1 + k = omega arith in
                xor_to_same count _ _ (λ l c. rw (lowered_at (length es) e s count l E.long c) (fallen_next k (at e l) (at s l) (E.inside l c) (S.inside l c)))
                ∙ W.values (suc k) (rw a h) ∙ ap (λ (i : ℕ). table_value es ls v (X i)) a;
          }

    -- the term of degree d with the coefficient c, at x
    abbrev term : ℕ → ℕ → ℕ → ℕ
    term x c d = table_product es ls (times_power (table_product es ls) x 1 d) c

    locator_next : (j : ℕ) → suc j < n → X j ≡ table_product es ls (table_power es 1) (X (suc j))
    unfolding locator
    locator_next j h = let q : n - suc j ≡ suc (n - suc (suc j)) = omega arith in rw q (P.next _)

    power_next : (x d : ℕ) →
        times_power (table_product es ls) (table_product es ls (table_power es 1) x) 1 d ≡ table_product es ls (table_power es d) (times_power (table_product es ls) x 1 d)
    unfolding times_power
    power_next x zero = rw P.first (sym (K.one-mul 1 K.in_one))
    power_next x (suc d) =
        let a = table_power es 1 in
        let p = table_power es d in
        let y = times_power (table_product es ls) x 1 d in
        ap (table_product es ls (table_product es ls a x)) (power_next x d) ∙ K.mul_assoc a x (table_product es ls p y)
        ∙ ap (table_product es ls a) (mul_left O K x p y) ∙ sym (K.mul_assoc a p (table_product es ls x y))
        ∙ ap (λ (u : ℕ). table_product es ls u (table_product es ls x y)) (sym (P.next d))

    -- from one place to the next the term of degree d is divided by a^d
    term_falls : (c d k j : ℕ) → j + k < n → times_power (table_product es ls) (table_inverse es ls (table_power es d)) (term (X j) c d) k ≡ term (X (j + k)) c d
    unfolding times_power
    term_falls c d zero j h = let q : j + 0 ≡ j = omega arith in rw q
    term_falls c d (suc k) j h =
        let q : suc (j + k) ≡ j + suc k = omega arith in
        let y = times_power (table_product es ls) (X (j + suc k)) 1 d in
        ap (table_product es ls (table_inverse es ls (table_power es d))) (term_falls c d k j (omega arith))
        ∙ divide (P.inside d) (P.nonzero d) (K.in_mul y c)
        (rw (locator_next (j + k) (omega arith), q, power_next (X (j + suc k)) d) (K.mul_assoc (table_power es d) y c))

    module _ (v : List ℕ) (elements : (k : ℕ) → at v k < length ls) where
      -- one coefficient more
      pub value_more : (x d : ℕ) → d < 9 → value_at O x (λ i. at v (9 - suc d + i)) (suc d) ≡ xor (value_at O x (λ i. at v (9 - d + i)) d) (term x (at v (8 - d)) d)
      unfolding times_power
      value_more x d h =
          let q : 9 - suc d + 0 ≡ 8 - d = omega arith in
          value_first O K x (times_power (table_product es ls) x 1) refl (λ k. refl) (λ i. at v (9 - suc d + i)) (λ k. elements _) d ∙ K.add_comm _ _
          ∙ ap₂ (λ (u w : ℕ). xor u (term x (at v w) d)) (value_same O K x _ _ d (λ i l. let r : 9 - suc d + suc i ≡ 9 - d + i = omega arith in ap (at v) r)) q

      module _ (j d : ℕ) (t : Terms) (h : d < 9) (S : Part es ls v n j d t) where
        abbrev value : ℕ
        value = term (X j) (at v (8 - d)) d

        abbrev power : ℕ
        power = table_power es d

        -- the new term, k places on
        falls : (k : ℕ) → j + k < n → times_power (table_product es ls) (table_inverse es ls power) value k ≡ term (X (j + k)) (at v (8 - d)) d
        falls k b = term_falls (at v (8 - d)) d k j b

        part_same : value ≡ 0 → Part es ls v n j (suc d) t
        part_same z =
            record {
              few = omega (arith, S.few);
              long = S.long;
              inside = S.inside;
              values = λ k b. S.values k b ∙ sym (value_more (X (j + k)) d h ∙ ap (xor _) (none k b) ∙ add-zero O K _);
            }
          where
            none : (k : ℕ) → j + k < n → term (X (j + k)) (at v (8 - d)) d ≡ 0
            none k b = sym (falls k b) ∙ ap (λ (u : ℕ). times_power (table_product es ls) (table_inverse es ls power) u k) z ∙ times_power_zero es ls T _ k

        part_more : ¬ (value ≡ 0) → Part es ls v n j (suc d) (add_term (at ls value) (at ls power) t)
        unfolding xor_to fallen
        part_more nz =
            record {
              few = omega (arith, S.few);
              long = length-set t.terms count _ ∙ S.long;
              inside = λ l b. inside l b (ℕ_discrete l count);
              values = λ k b. rw (add-one, here.0, here.1, by_value.1, by_power.1, falls k b)
                  (ap (λ (u : ℕ). xor u (term (X (j + k)) (at v (8 - d)) d)) (xor_to_same count _ _ (λ l c. rw ((before l c).0, (before l c).1)) ∙ S.values k b)
                  ∙ sym (value_more (X (j + k)) d h));
            }
          where
            count : ℕ
            count = t.count

            more : Terms
            more = add_term (at ls value) (at ls power) t

            by_value : (at ls value < length es) × (at es (at ls value) ≡ value)
            by_value = table_exponent es ls T value nz (K.in_mul _ _)

            by_power : (at ls power < length es) × (at es (at ls power) ≡ power)
            by_power = table_exponent es ls T power (P.nonzero d) (P.inside d)

            here : (at (exponents_of more.terms) count ≡ at ls value) × (at (steps_of more.terms) count ≡ at ls power)
            here =
                let e : get_or more.terms count no_term ≡ record { exponent = at ls value; step = at ls power } = get_or-set_same t.terms count _ no_term (omega (arith, S.few, S.long)) in
                (exponent_at more.terms count ∙ ap (λ (u : Term). u.exponent) e, step_at more.terms count ∙ ap (λ (u : Term). u.step) e)

            before : (l : ℕ) → l < count → (at (exponents_of more.terms) l ≡ at (exponents_of t.terms) l) × (at (steps_of more.terms) l ≡ at (steps_of t.terms) l)
            before l c =
                let e : get_or more.terms l no_term ≡ get_or t.terms l no_term = get_or-set_other t.terms count l _ no_term (λ q. omega arith) in
                (exponent_at more.terms l ∙ ap (λ (u : Term). u.exponent) e ∙ sym (exponent_at t.terms l), step_at more.terms l ∙ ap (λ (u : Term). u.step) e ∙ sym (step_at t.terms l))

            inside : (l : ℕ) → l < count + 1 → Dec (l ≡ count) → (at (exponents_of more.terms) l < length es) × (at (steps_of more.terms) l < length es)
            inside l b (yes q) = rw (q, here.0, here.1) (by_value.0, by_power.0)
            inside l b (no q) = let c : l < count = omega arith in rw ((before l c).0, (before l c).1) (S.inside l c)

        part_next : Part es ls v n j (suc d) (with_term ls value power t)
        unfolding with_term
        part_next = go (is_zero value)
          where
            go : Dec (value ≡ 0) → Part es ls v n j (suc d) (cond (eqb value 0) t (add_term (at ls value) (at ls power) t))
            go (yes z) = rw (eq-eqb value 0 z) (part_same z)
            go (no z) = rw (ne_eqb value 0 z) (part_more z)

      parts : (j d : ℕ) → d ≤ 9 → Part es ls v n j d (terms_to es ls v (X j) d)
      unfolding terms_to xor_to value_at
      parts j zero h = record { few = zero-le; long = refl; inside = λ l h. absurd (not-suc-le-zero h); values = λ k h. refl }
      parts j (suc d) h = part_next j d (terms_to es ls v (X j) d) h (parts j d (omega arith))

      -- all terms
      module _ (nine : length v ≡ 9) (j : ℕ) (t : Terms) (all : t ≡ terms_to es ls v (X j) 9) where
        whole : Part es ls v n j 9 t
        whole = rw all (parts j 9 (le_refl 9))

        pub terms_long : length (exponents_of t.terms) ≡ 9
        terms_long = length-map t.terms _ ∙ whole.long

        pub exponents_in : Exponents es t.count (exponents_of t.terms)
        exponents_in = record { long = omega (arith, whole.few, terms_long); inside = λ l h. (whole.inside l h).0 }

        pub steps_in : Exponents es t.count (steps_of t.terms)
        steps_in = record { long = omega (arith, whole.few, length-map t.terms (λ (u : Term). u.step), whole.long); inside = λ l h. (whole.inside l h).1 }

        pub walk_start : Walk es ls v n j (exponents_of t.terms) (steps_of t.terms) t.count
        walk_start =
            record { values = λ k h. whole.values k h ∙ value_same O K (X (j + k)) _ _ 9 (λ i l. ap (at v) (zero-add i)) ∙ sym (table_value_is es ls v (X (j + k)) 9 nine) }

    -- ---- the quotient

    module _ (v : List ℕ) (elements : (k : ℕ) → at v k < length ls) (nine : length v ≡ 9) where
      quotient_value : (r x : ℕ) → table_value es ls (quotient_of es ls v r) x ≡ value_at O x (value_at O r (at v)) 9
      unfolding quotient_of
      quotient_value r x =
          table_value_is es ls _ x 9 (tabulate_length 9 _) ∙ value_same O K x _ _ 9 (λ k l. tabulate_at 9 _ k 0 l ∙ table_value_lem es ls r (at v) k)

      pub quotient_in : (r k : ℕ) → at (quotient_of es ls v r) k < length ls
      unfolding quotient_of
      quotient_in r k = tabulate_lt (length ls) 9 _ K.in_zero (λ i. rw (table_value_lem es ls r (at v) i) (value_in O K r (at v) elements i)) k

      -- after a place whose locator is a root the quotient has the same roots
      module _ (fits : n ≤ length es) (i : ℕ) (root : RootAt es ls v n i) (k : ℕ) (later : i < k) (h : k < n) where
        here : value_at O (X i) (at v) 9 ≡ 0
        here = sym (table_value_is es ls v (X i) 9 nine) ∙ root

        other : ¬ (X k ≡ X i)
        other q = locators_distinct es ls T n fits i k later h (sym q)

        pub root_stays : RootAt es ls v n k → RootAt es ls (quotient_of es ls v (X i)) n k
        root_stays z =
            quotient_value (X i) (X k)
            ∙ quotient_root O K (X i) (X k) (locator_in es ls T n i) (locator_in es ls T n k) other (at v) elements 9 here (sym (table_value_is es ls v (X k) 9 nine) ∙ z)

        pub root_was : RootAt es ls (quotient_of es ls v (X i)) n k → RootAt es ls v n k
        root_was z =
            table_value_is es ls v (X k) 9 nine
            ∙ root_quotient O K (X i) (X k) (locator_in es ls T n i) (locator_in es ls T n k) other (at v) elements 9 here (sym (quotient_value (X i) (X k)) ∙ z)
