-- Errors in a word of bits, each taken to have its locator for a value: if they leave nothing of the syndromes, they are what is to be found. Assumes nothing.
use mathlib.Core.Path.{◌≡◌, refl, sym, ap, ◌∙◌}
use mathlib.Core.Bool.{Bool, true}
use mathlib.Core.List.{List}
use Prim.Native.Nat.{ℕ, zero, suc, ◌-◌, ◌*◌, ◌≤◌, ◌<◌}
use native.Mathlib.Decide.{ℕ_discrete}
use native.Mathlib.Nat.{add_comm, le_refl, mul-one, mul-suc}
use native.Mathlib.Omega.{arith}
use lib.Dec.{lit<}
use lib.ListN.{length, set, length-set, length-replicate}
use lib.Seq.{get_or-set_same, get_or-set_other}
use Rattle.fields.specs.Elements.{xor}
use Rattle.fields.specs.Steps.ByTables.{table_product, table_power}
use Rattle.fields.specs.Places.{at, all_below}
use Rattle.fields.proofs.Lists.{tabulate_same}
use Rattle.fields.proofs.Xor.{xor_cancel, xor_zero_r}
use Rattle.fields.proofs.Places.Filling.{zeros_at}
use Rattle.fields.proofs.Places.Tests.{below_at}
use Rattle.decoding.specs.declared.error_values.Errors.{Errors}
use Rattle.decoding.specs.declared.root_search.Places.{Places}
use Rattle.decoding.specs.Steps.Decoder.{Tables, locator, times_power, syndrome, error_at, Decoded}
use Rattle.decoding.specs.Steps.RootSearch.{Roots}
use Rattle.decoding.specs.Steps.ErrorValues.{less_error, Located, less_powers, flipped, flipped_to}
use Rattle.decoding.proofs.Algebra.Tables.{table_laws, table_powers, table_power_at, table_power_sum}
use Rattle.decoding.proofs.Decoding.Changes.{errors_weight, weight_most}
use Rattle.decoding.proofs.Decoding.Completeness.{left_none, left_next}
use Rattle.decoding.proofs.Decoding.Uniqueness.{errors_in, errors_unique}

module _ (es ls : List ℕ) (T : Tables es ls) where
  -- the powers of a^x, times a^x
  powers_of : (x j : ℕ) → times_power (table_product es ls) (table_power es x) (table_power es x) j ≡ table_power es (x * suc j)
  unfolding times_power
  powers_of x zero = ap (table_power es) (sym (mul-one x))
  powers_of x (suc j) =
      ap (table_product es ls (table_power es x)) (powers_of x j) ∙ sym (table_power_sum es ls T x (x * suc j))
      ∙ ap (table_power es) (add_comm x (x * suc j) ∙ sym (mul-suc x (suc j)))

  less_powers_is : (n place : ℕ) → n ≤ length es → place < n → (t : List ℕ) →
      less_powers es (n - suc place) t ≡ less_error es ls (locator es n place) (at es (n - suc place)) t
  unfolding less_powers less_error locator
  less_powers_is n place fits h t =
      tabulate_same 16 _ _ (λ j l. ap (xor (at t j)) (sym (powers_of (n - suc place) j)
      ∙ ap (λ (v : ℕ). times_power (table_product es ls) (table_power es (n - suc place)) v j) (sym (table_power_at es ls T (n - suc place) (omega arith)))))

  module _ (n : ℕ) (fits : n ≤ length es) (t : List ℕ) (p : Places) (few : p.count ≤ 8) (below : (k : ℕ) → k < p.count → at p.at k < n) where
    -- the first k places have their values
    record Flips (k : ℕ) (e : Errors) : Type 0 where
      pub same : e.places ≡ p
      pub long : length e.values ≡ 8
      pub unset : (l : ℕ) → k ≤ l → at e.values l ≡ 0
      pub elements : (l : ℕ) → at e.values l < length ls
      pub left_is : (j : ℕ) → j < 16 → at e.left j ≡ xor (at t j) (syndrome es ls n (error_at p.at e.values p.count) j)

    flips_one : (k : ℕ) → k < p.count → (values left : List ℕ) → Flips k (record { places = p; values = values; left = left }) →
        Flips (suc k) (flipped es n k (record { places = p; values = values; left = left }))
    unfolding flipped
    flips_one k h values left S =
        record {
          same = refl;
          long = length-set values k v ∙ S.long;
          unset = λ l b. other l (λ q. omega arith) ∙ S.unset l (omega arith);
          elements = λ l. inside l (ℕ_discrete l k);
          left_is = λ j b. ap (λ (s : List ℕ). at s j) (less_powers_is n place fits (below k h) left)
              ∙ left_next es ls T n t p values left k v h (below k h) (omega (arith, S.long)) (S.unset k (le_refl k)) S.left_is j b;
        }
      where
        place : ℕ
        place = at p.at k

        v : ℕ
        v = at es (n - suc place)

        v_in : v < length ls
        v_in = rw (table_power_at es ls T (n - suc place) (omega (arith, below k h))) ((table_powers es ls T).inside _)

        other : (l : ℕ) → ¬ (l ≡ k) → at (set values k v) l ≡ at values l
        other l q = get_or-set_other values k l v 0 q

        inside : (l : ℕ) → Dec (l ≡ k) → at (set values k v) l < length ls
        inside l (yes q) = rw (q, get_or-set_same values k v 0 (omega (arith, S.long))) v_in
        inside l (no q) = rw (other l q) (S.elements l)

    flips : (k : ℕ) → k ≤ p.count → Flips k (flipped_to es n t p k)
    unfolding flipped_to
    flips zero h =
        record {
          same = refl;
          long = length-replicate {A = ℕ} 8 0;
          unset = λ l b. zeros_at 8 l;
          elements = λ l. rw (zeros_at 8 l) (table_laws es ls T).in_zero;
          left_is = left_none es ls T n t p;
        }
    flips (suc k) h =
        let S : Flips k (flipped_to es n t p k) = flips k (omega arith) in
        let e = flipped_to es n t p k in
        let q : record { places = p; values = e.values; left = e.left } ≡ e =
        ap (λ (u : Places). record { places = u; values = e.values; left = e.left }) (sym S.same) in
        rw (← q) (flips_one k h e.values e.left (rw (← q) at S))

  pub flips_right : (n : ℕ) → n ≤ length es → (t : List ℕ) (p : Places) → Located es ls t n p.at p.count → (e : Errors) → e ≡ flipped_to es n t p p.count →
      (b : Bool) → b ≡ all_below 1 e.left → b ≡ true → Decoded es ls t n e.places.at e.values e.places.count e.left
  flips_right n fits t p L e q b test so =
      rw S.same (record {
        few = R.few;
        below = R.below;
        ascending = R.ascending;
        elements = λ l h. S.elements l;
        left_is = S.left_is;
        complete = λ w C.
            errors_unique es ls T n fits (error_at p.at e.values p.count) w (errors_in es ls T p.at e.values S.elements p.count) C.elements
            (λ j h. sym (own j h) ∙ C.syndromes j h)
            (omega (arith, errors_weight p.at e.values n p.count R.ascending, weight_most p.at e.values 0 n p.count, R.few)) C.few;
      })
    where
      R : Roots es ls L.polynomial n n p.at p.count
      R = L.roots

      S : Flips n fits t p R.few R.below p.count e
      S = rw q (flips n fits t p R.few R.below p.count (le_refl p.count))

      own : (j : ℕ) → j < 16 → at t j ≡ syndrome es ls n (error_at p.at e.values p.count) j
      own j h =
          let z : 0 ≡ at e.left j = omega (arith, below_at 1 e.left (lit< tt) (sym test ∙ so) j) in
          sym (xor_zero_r (at t j)) ∙ ap (xor (at t j)) (z ∙ S.left_is j h) ∙ xor_cancel (at t j) _
