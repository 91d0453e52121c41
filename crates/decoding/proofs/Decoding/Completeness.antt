-- The errors are resolved one after the other, the last first; what is left is known, and errors in at most eight places are all found. Assumes nothing.
use mathlib.Core.Path.{◌≡◌, refl, sym, ap, ap₂, ◌∙◌, fun_ext}
use mathlib.Core.Bool.{Bool, true, false, cond}
use mathlib.Core.List.{List}
use Prim.Native.Nat.{ℕ, zero, suc, ◌-◌, ◌≤◌, ◌<◌}
use native.Mathlib.Decide.{ℕ_discrete}
use native.Mathlib.Nat.{le_refl}
use native.Mathlib.Omega.{arith}
use borrow.Author.Tests.{eq-eqb, ne_eqb}
use lib.Dec.{eqb}
use lib.ListN.{length, set, replicate, length-set, length-replicate}
use lib.Seq.{get_or-set_same, get_or-set_other}
use Rattle.fields.specs.Elements.{xor}
use Rattle.fields.specs.Steps.ByTables.{table_product}
use Rattle.fields.specs.Places.{at}
use Rattle.fields.proofs.Places.Filling.{zeros_at}
use Rattle.decoding.specs.declared.error_values.Errors.{Errors}
use Rattle.decoding.specs.declared.root_search.Places.{Places}
use Rattle.decoding.specs.Steps.Decoder.{Tables, locator, xor_to, times_power, syndrome, error_at, Correctable, Decoded}
use Rattle.decoding.specs.Steps.RootSearch.{backwards, Roots}
use Rattle.decoding.specs.Steps.ErrorValues.{error_value, less_error, resolved, Located}
use Rattle.decoding.proofs.Algebra.Field as F
use Rattle.decoding.proofs.Algebra.Field.{Ops, Laws, all_map, upto, upto_lt}
use Rattle.decoding.proofs.Algebra.PowerSums.{sum, power_sum, sum_zero, sum_at_lem, sum_put}
use Rattle.decoding.proofs.Algebra.Tables.{table_ops, table_laws, times_power_zero, power_sum_terms, xor_to_sum, syndrome_is}
use Rattle.decoding.proofs.Decoding.RootPlaces.{locators_distinct, few_roots, covers}
use Rattle.decoding.proofs.Decoding.Changes.{syndrome_add}
use Rattle.decoding.proofs.Decoding.Values.{value_right, less_at, less_sums}

-- the places p from k on have their values in e, and `left` is what these leave of the syndromes t
pub record Resolving (es ls t : List ℕ) (n : ℕ) (p : Places) (e : Errors) (k : ℕ) : Type 0 where
  pub same : e.places ≡ p
  pub within : k ≤ p.count
  pub long : length e.values ≡ 8
  pub unset : (l : ℕ) → l < k → at e.values l ≡ 0
  pub elements : (l : ℕ) → at e.values l < length ls
  pub left_is : (j : ℕ) → j < 16 → at e.left j ≡ xor (at t j) (syndrome es ls n (error_at p.at e.values p.count) j)
  -- of errors that can be corrected, those at the places before k are left, and the others are found
  pub remain : (w : ℕ → ℕ) → Correctable es ls t n w → (j : ℕ) → j < 16 → at e.left j ≡ power_sum (table_ops es ls) (locator es n) w (backwards p.at k) j
  pub found : (w : ℕ → ℕ) → Correctable es ls t n w → (l : ℕ) → k ≤ l → l < p.count → at e.values l ≡ w (at p.at l)

-- an error v at place p and no other
unfoldable pub one_error : ℕ → ℕ → ℕ → ℕ
one_error p v i = cond (eqb p i) v 0

one_none : (p i : ℕ) → one_error p 0 i ≡ 0
unfolding one_error
one_none p i = go (eqb p i)
  where
    go : (b : Bool) → ◌≡◌ {A = ℕ} (cond b 0 0) 0
    go true = refl
    go false = refl

one_here : (p v : ℕ) → one_error p v p ≡ v
unfolding one_error
one_here p v = rw (eq-eqb p p refl)

one_elsewhere : (p v i : ℕ) → ¬ (i ≡ p) → one_error p v i ≡ 0
unfolding one_error
one_elsewhere p v i h = rw (ne_eqb p i (λ e. h (sym e)))

module _ (es ls : List ℕ) (T : Tables es ls) where
  abbrev O : Ops ℕ
  O = table_ops es ls

  K : Laws O (λ a. a < length ls)
  K = table_laws es ls T

  -- ---- the syndromes of one error

  syndrome_none : (n j : ℕ) → syndrome es ls n (λ i. 0) j ≡ 0
  unfolding syndrome
  syndrome_none n j = xor_to_sum es ls T _ n ∙ sum_zero O K (upto n) _ (all_map (λ i l. times_power_zero es ls T (locator es n i) j) (upto n) (upto_lt n))

  syndrome_one : (n p v j : ℕ) → p < n → syndrome es ls n (one_error p v) j ≡ times_power (table_product es ls) (locator es n p) v j
  unfolding syndrome
  syndrome_one n p v j h =
      let term : ℕ → ℕ → ℕ = λ i c. times_power (table_product es ls) (locator es n i) c j in
      xor_to_sum es ls T _ n ∙ sum_at_lem O K (λ i. term i (one_error p v i)) p n h (λ i q. ap (term i) (one_elsewhere p v i q) ∙ times_power_zero es ls T _ j)
      ∙ ap (term p) (one_here p v)

  -- ---- the errors found

  error_none : (places values : List ℕ) → ((l : ℕ) → at values l ≡ 0) → (count i : ℕ) → error_at places values count i ≡ 0
  unfolding error_at one_error
  error_none places values z count i =
      xor_to_sum es ls T _ count
      ∙ sum_zero O K (upto count) _ (all_map (λ l h. ap (λ (v : ℕ). one_error (at places l) v i) (z l) ∙ one_none (at places l) i) (upto count) (upto_lt count))

  -- a value more
  error_set : (places values : List ℕ) (count k v : ℕ) → k < count → k < length values → at values k ≡ 0 → (i : ℕ) →
      error_at places (set values k v) count i ≡ xor (error_at places values count i) (one_error (at places k) v i)
  unfolding error_at one_error
  error_set places values count k v h r z i =
      let term : List ℕ → ℕ → ℕ = λ w l. one_error (at places l) (at w l) i in
      xor_to_sum es ls T (term (set values k v)) count
      ∙ sum_put O K (term values) (term (set values k v)) k count h (ap (λ (w : ℕ). one_error (at places k) w i) z ∙ one_none (at places k) i)
      (λ l q. ap (λ (w : ℕ). one_error (at places l) w i) (get_or-set_other values k l v 0 q))
      ∙ ap₂ xor (sym (xor_to_sum es ls T (term values) count)) (ap (λ (w : ℕ). one_error (at places k) w i) (get_or-set_same values k v 0 r))

  backwards_sum : (places : List ℕ) (g f : ℕ → ℕ) (c : ℕ) → ((l : ℕ) → l < c → g l ≡ f (at places l)) → xor_to c g ≡ sum O f (backwards places c)
  unfolding xor_to sum backwards
  backwards_sum places g f zero h = refl
  backwards_sum places g f (suc c) h = ap₂ xor (backwards_sum places g f c (λ l b. h l (omega arith))) (h c (le_refl (suc c))) ∙ K.add_comm _ (f (at places c))

  value_in : (n : ℕ) (places left : List ℕ) (k : ℕ) → error_value es ls n places left k < length ls
  unfolding error_value
  value_in n places left k = K.in_mul _ _

  -- what the errors leave: all, if there are none; and with a value more
  module _ (n : ℕ) (t : List ℕ) (p : Places) where
    pub left_none : (j : ℕ) → j < 16 → at t j ≡ xor (at t j) (syndrome es ls n (error_at p.at (replicate 8 0) p.count) j)
    left_none j h =
        let none : error_at p.at (replicate 8 0) p.count ≡ (λ i. 0) = fun_ext (error_none p.at (replicate 8 0) (zeros_at 8) p.count) in
        sym (ap (xor (at t j)) (ap (λ f. syndrome es ls n f j) none ∙ syndrome_none n j) ∙ F.add-zero O K _)

    pub left_next : (values left : List ℕ) (k v : ℕ) → k < p.count → at p.at k < n → k < length values → at values k ≡ 0 →
        ((j : ℕ) → j < 16 → at left j ≡ xor (at t j) (syndrome es ls n (error_at p.at values p.count) j)) →
        (j : ℕ) → j < 16 → at (less_error es ls (locator es n (at p.at k)) v left) j ≡ xor (at t j) (syndrome es ls n (error_at p.at (set values k v) p.count) j)
    left_next values left k v h below room unset so_far j l =
        let place = at p.at k in
        let x = locator es n place in
        let before = error_at p.at values p.count in
        less_at es ls T n x v left j l ∙ ap (λ (s : ℕ). xor s (times_power (table_product es ls) x v j)) (so_far j l) ∙ K.add_assoc (at t j) _ _
        ∙ ap (xor (at t j)) (ap (xor (syndrome es ls n before j)) (sym (syndrome_one n place v j below)) ∙ sym (syndrome_add es ls n T before (one_error place v) j)
        ∙ ap (λ f. syndrome es ls n f j) (sym (fun_ext (error_set p.at values p.count k v h room unset))))

  module _ (n : ℕ) (fits : n ≤ length es) (t : List ℕ) (p : Places) (L : Located es ls t n p.at p.count) where
    abbrev v : List ℕ
    v = L.polynomial

    R : Roots es ls v n n p.at p.count
    R = L.roots

    -- the place before k is resolved
    resolving_one : (k : ℕ) (values left : List ℕ) → Resolving es ls t n p (record { places = p; values = values; left = left }) (suc k) →
        Resolving es ls t n p (resolved es ls n k (record { places = p; values = values; left = left })) k
    unfolding resolved backwards
    resolving_one k values left S =
        record {
          same = refl;
          within = omega (arith, S.within);
          long = length-set values k v' ∙ S.long;
          unset = λ l h. other l (λ q. omega arith) ∙ S.unset l (omega arith);
          elements = λ l. inside l (ℕ_discrete l k);
          left_is = left_next n t p values left k v' S.within (R.below k S.within) room (S.unset k (le_refl (suc k))) S.left_is;
          remain = λ w C j h.
              ap (λ (u : ℕ). at (less_error es ls x u left) j) (right w C) ∙ less_sums es ls T n w left place (backwards p.at k) (S.remain w C) j h;
          found = λ w C l h b. value w C l h b (ℕ_discrete l k);
        }
      where
        place : ℕ
        place = at p.at k

        x : ℕ
        x = locator es n place

        v' : ℕ
        v' = error_value es ls n p.at left k

        room : k < length values
        room = omega (arith, S.within, S.long, R.few)

        here : at (set values k v') k ≡ v'
        here = get_or-set_same values k v' 0 room

        other : (l : ℕ) → ¬ (l ≡ k) → at (set values k v') l ≡ at values l
        other l q = get_or-set_other values k l v' 0 q

        inside : (l : ℕ) → Dec (l ≡ k) → at (set values k v') l < length ls
        inside l (yes q) = rw (q, here) (value_in n p.at left k)
        inside l (no q) = rw (other l q) (S.elements l)

        right : (w : ℕ → ℕ) → Correctable es ls t n w → v' ≡ w place
        right w C =
            value_right es ls T n p.at w C.elements left k (omega (arith, S.within, R.few))
            (λ i l q. locators_distinct es ls T n fits (at p.at i) place (R.ascending i k l S.within) (R.below k S.within) (sym q)) (S.remain w C)

        value : (w : ℕ → ℕ) → Correctable es ls t n w → (l : ℕ) → k ≤ l → l < p.count → Dec (l ≡ k) → at (set values k v') l ≡ w (at p.at l)
        value w C l h b (yes q) = rw q (here ∙ right w C)
        value w C l h b (no q) = other l q ∙ S.found w C l (omega arith) b

    pub resolving_next : (e r : Errors) (k : ℕ) → Resolving es ls t n p e k → 0 < k → r ≡ resolved es ls n (k - 1) e → Resolving es ls t n p r (k - 1)
    resolving_next e r k S h er =
        let q : k ≡ suc (k - 1) = omega arith in
        let s : record { places = p; values = e.values; left = e.left } ≡ e =
        ap (λ (u : Places). record { places = u; values = e.values; left = e.left }) (sym S.same) in
        rw (er, ← s) (resolving_one (k - 1) e.values e.left (rw (← s, q) at S))

    covered : (w : ℕ → ℕ) → Correctable es ls t n w → (f : ℕ → ℕ) → ((i : ℕ) → w i ≡ 0 → f i ≡ 0) →
        sum O f (backwards p.at p.count) ≡ sum O f (upto n)
    covered w C f h = ap (sum O f) (R.all (few_roots es ls T n v fits t L.annihilates L.long)) ∙ covers es ls T n v fits t L.annihilates L.long w C f h

    pub resolving_start : Resolving es ls t n p (record { places = p; values = replicate 8 0; left = t }) p.count
    resolving_start =
        record {
          same = refl;
          within = le_refl p.count;
          long = length-replicate {A = ℕ} 8 0;
          unset = λ l h. zeros_at 8 l;
          elements = λ l. rw (zeros_at 8 l) K.in_zero;
          left_is = left_none n t p;
          remain = λ w C j h.
              C.syndromes j h ∙ syndrome_is es ls T n w j ∙ power_sum_terms es ls (locator es n) w (upto n) j
              ∙ sym (covered w C _ (λ i z. ap (λ (c : ℕ). times_power (table_product es ls) (locator es n i) c j) z ∙ times_power_zero es ls T _ j))
              ∙ sym (power_sum_terms es ls (locator es n) w (backwards p.at p.count) j);
          found = λ w C l h b. absurd (omega arith);
        }

    pub resolving_end : (e : Errors) (k : ℕ) → Resolving es ls t n p e k → k ≤ 0 → Decoded es ls t n e.places.at e.values e.places.count e.left
    unfolding error_at one_error
    resolving_end e k S z =
        rw S.same (record {
          few = R.few;
          below = R.below;
          ascending = R.ascending;
          elements = λ l h. S.elements l;
          left_is = S.left_is;
          complete = λ w C i h.
              let f : ℕ → ℕ = λ q. one_error q (w q) i in
              backwards_sum p.at _ f p.count (λ l b. ap (λ (v : ℕ). one_error (at p.at l) v i) (S.found w C l (omega arith) b))
              ∙ covered w C f (λ q y. ap (λ (v : ℕ). one_error q v i) y ∙ one_none q i)
              ∙ sum_at_lem O K f i n h (λ q y. one_elsewhere q (w q) i (λ r. y (sym r))) ∙ one_here i (w i);
        })
