-- A word with errors added at listed places: in how many places it changes, and the syndromes. For any field and length. Assumes nothing.
use mathlib.Core.Path.{◌≡◌, refl, sym, ap, ap₂, ◌∙◌}
use mathlib.Core.Bool.{Bool, true, false, ◌&&◌, cond}
use mathlib.Core.List.{List}
use Prim.Native.Nat.{ℕ, zero, suc, ◌+◌, ◌-◌, ◌^◌, ◌≤◌, ◌<◌, zero-le}
use native.Mathlib.Decide.{dec_lt, ℕ_discrete}
use native.Mathlib.Nat.{add-zero, le_refl, not-suc-le-zero, zero-add}
use native.Mathlib.Omega.{arith}
use borrow.Author.Tests.{eq-eqb, eqb-true, le-leb, le-ltb, lt-leb, lt-ltb, ne_eqb}
use lib.Dec.{eqb, ltb, leb, lit<}
use lib.ListN.{length}
use lib.Pow.{pow_pos}
use Rattle.fields.specs.Elements.{xor}
use Rattle.fields.specs.Steps.ByTables.{table_product, table_power}
use Rattle.fields.specs.Places.{at, all_below, horner, sum_to, differs, apart_between, apart}
use Rattle.fields.proofs.Lists.{tabulate_at, tabulate_length}
use Rattle.fields.proofs.Xor.{xor_cancel, xor_lt, xor_self, xor_zero_l, xor_zero_r}
use Rattle.fields.proofs.Places.Tests.{below_at, below_all}
use Rattle.fields.proofs.Places.Counting.{differs_most, differs_self, sum_zero, sum_same, sum_add, apart_sum}
use Rattle.decoding.specs.Steps.Decoder.{Tables, locator, xor_to, times_power, syndrome, error_at, Correctable, Decoded, change_between, weight_between, with_errors}
use Rattle.decoding.proofs.Algebra.PowerSums.{power_sum_add, horner_sums}
use Rattle.decoding.proofs.Algebra.Tables.{table_ops, table_laws, table_powers, xor_to_same, table_value_lem, syndrome_is}

-- a sum of v at one place, and else of 0
sum_single : (n p v : ℕ) → p < n → sum_to n (λ i. cond (eqb p i) v 0) ≡ v
unfolding sum_to
sum_single zero p v h = absurd (not-suc-le-zero h)
sum_single (suc n) p v h = go (ℕ_discrete p n) (sum_single n p v)
  where
    go : Dec (p ≡ n) → (p < n → sum_to n (λ i. cond (eqb p i) v 0) ≡ v) → sum_to n (λ i. cond (eqb p i) v 0) + cond (eqb p n) v 0 ≡ v
    go (yes e) r = rw (eq-eqb p n e) (omega (arith, sum_zero n (λ i. cond (eqb p i) v 0) (λ i l. rw (ne_eqb p i (λ q. omega arith)))))
    go (no e) r = rw (ne_eqb p n e) (omega (arith, r (omega arith)))

-- an error that is not zero changes a symbol
differs_added : (x e : ℕ) → differs x (xor x e) ≡ differs e 0
unfolding differs
differs_added x e = go (ℕ_discrete e 0)
  where
    go : Dec (e ≡ 0) → ◌≡◌ {A = ℕ} (cond (eqb x (xor x e)) 0 1) (cond (eqb e 0) 0 1)
    go (yes z) = rw (z, xor_zero_r, eq-eqb x x refl)
    go (no z) = rw (ne_eqb e 0 z, ne_eqb x (xor x e) (λ q. z (sym (xor_cancel x e) ∙ ap (xor x) (sym q) ∙ xor_self x)))

-- the errors between two words: their weight is the distance
pub differs_sum : (x y : ℕ) → differs (xor x y) 0 ≡ differs x y
differs_sum x y = sym (differs_added x (xor x y)) ∙ ap (differs x) (xor_cancel x y)

pub sum_weight : (w c : List ℕ) → sum_to (length w) (λ i. differs (xor (at w i) (at c i)) 0) ≡ apart w c
sum_weight w c = sum_same (length w) _ _ (λ i l. differs_sum (at w i) (at c i)) ∙ sym (apart_sum w c)

-- an error at a place from one on and before another, or at no such place
module _ (from to p v : ℕ) where
  pub change_before : p < from → 0 ≡ change_between from to p v
  unfolding change_between
  change_before l = rw (lt-leb from p l)

  pub change_after : from ≤ p → to ≤ p → 0 ≡ change_between from to p v
  unfolding change_between
  change_after l h = rw (le-leb from p l, le-ltb p to h)

  pub change_inside : from ≤ p → p < to → change_between from to p v ≡ differs v 0
  unfolding change_between
  change_inside l h = rw (le-leb from p l, lt-ltb p to h)

  change_most : change_between from to p v ≤ 1
  unfolding change_between
  change_most = go (leb from p && ltb p to)
    where
      go : (b : Bool) → cond b (differs v 0) 0 ≤ 1
      go true = differs_most v 0
      go false = zero-le

  change_sum : sum_to (to - from) (λ i. cond (eqb p (from + i)) (differs v 0) 0) ≡ change_between from to p v
  change_sum = go (dec_lt p from) (dec_lt p to)
    where
      outside : ((i : ℕ) → i < to - from → p ≡ from + i → ⊥) → sum_to (to - from) (λ i. cond (eqb p (from + i)) (differs v 0) 0) ≡ 0
      outside h = sum_zero (to - from) _ (λ i l. rw (ne_eqb p (from + i) (h i l)))

      same : from ≤ p → (i : ℕ) → Dec (p - from ≡ i) → cond (eqb p (from + i)) (differs v 0) 0 ≡ cond (eqb (p - from) i) (differs v 0) 0
      same l i (yes e) = rw (eq-eqb p (from + i) (omega arith), eq-eqb (p - from) i e)
      same l i (no e) = rw (ne_eqb p (from + i) (λ q. e (omega arith)), ne_eqb (p - from) i e)

      go : Dec (p < from) → Dec (p < to) → sum_to (to - from) (λ i. cond (eqb p (from + i)) (differs v 0) 0) ≡ change_between from to p v
      go (yes l) h = outside (λ i b e. omega arith) ∙ change_before l
      go (no l) (no h) = outside (λ i b e. omega arith) ∙ change_after (omega arith) (omega arith)
      go (no l) (yes h) =
          sum_same (to - from) _ _ (λ i b. same (omega arith) i (ℕ_discrete (p - from) i)) ∙ sum_single (to - from) (p - from) _ (omega arith) ∙ sym (change_inside (omega arith) h)

module _ (places values : List ℕ) where
  -- there is no error at a place after those listed
  pub error_none : (k i : ℕ) → ((l : ℕ) → l < k → at places l < i) → error_at places values k i ≡ 0
  unfolding error_at xor_to
  error_none zero i h = refl
  error_none (suc k) i h =
      rw (error_none k i (λ l b. h l (omega arith)), ne_eqb (at places k) i (λ e. omega (arith, h k (le_refl (suc k)))), xor_zero_r)

  pub error_lt : (m k i : ℕ) → ((l : ℕ) → l < k → at values l < 2 ^ m) → error_at places values k i < 2 ^ m
  unfolding error_at xor_to
  error_lt m zero i h = pow_pos m
  error_lt m (suc k) i h = xor_lt m _ _ (error_lt m k i (λ l b. h l (omega arith))) (go (eqb (at places k) i))
    where
      go : (b : Bool) → cond b (at values k) 0 < 2 ^ m
      go true = h k (le_refl (suc k))
      go false = pow_pos m

  pub weight_most : (from to k : ℕ) → weight_between from to places values k ≤ k
  unfolding weight_between sum_to
  weight_most from to zero = le_refl 0
  weight_most from to (suc k) = omega (arith, weight_most from to k, change_most from to (at places k) (at values k))

  -- the first k places are ascending
  pub weight_between_lem : (from to k : ℕ) → ((l m : ℕ) → l < m → m < k → at places l < at places m) →
      sum_to (to - from) (λ i. differs (error_at places values k (from + i)) 0) ≡ weight_between from to places values k
  unfolding weight_between sum_to error_at xor_to
  weight_between_lem from to zero ascending = sum_zero (to - from) _ (λ i l. differs_self 0)
  weight_between_lem from to (suc k) ascending =
      sum_same (to - from) _ _ (λ i l. go (from + i) (eqb (at places k) (from + i)) refl)
      ∙ sum_add (to - from) (λ i. differs (error_at places values k (from + i)) 0) (λ i. cond (eqb (at places k) (from + i)) (differs (at values k) 0) 0)
      ∙ ap₂ ◌+◌ (weight_between_lem from to k (λ l m b c. ascending l m b (omega arith))) (change_sum from to (at places k) (at values k))
    where
      go : (i : ℕ) (b : Bool) → eqb (at places k) i ≡ b →
          differs (xor (error_at places values k i) (cond (eqb (at places k) i) (at values k) 0)) 0 ≡ differs (error_at places values k i) 0 + cond (eqb (at places k) i) (differs (at values k) 0) 0
      go i true e = rw (e, error_none k i (λ l b. rw (← eqb-true (at places k) i e) (ascending l k b (le_refl (suc k)))), xor_zero_l) (omega (arith, differs_self 0))
      go i false e = rw (e, xor_zero_r, add-zero)

  -- of a word of n symbols
  module _ (n : ℕ) where
    pub errors_weight : (k : ℕ) → ((l m : ℕ) → l < m → m < k → at places l < at places m) →
        sum_to n (λ i. differs (error_at places values k i) 0) ≡ weight_between 0 n places values k
    errors_weight k ascending =
        let all : n - 0 ≡ n = omega arith in
        sum_same n _ _ (λ i l. ap (λ (j : ℕ). differs (error_at places values k j) 0) (sym (zero-add i))) ∙ (rw all at (weight_between_lem 0 n k ascending))

    module _ (k : ℕ) (w : ℕ → ℕ) where
      pub errors_length : length (with_errors w places values k n) ≡ n
      unfolding with_errors
      errors_length = tabulate_length n _

      pub errors_at : (i : ℕ) → i < n → at (with_errors w places values k n) i ≡ xor (w i) (error_at places values k i)
      unfolding with_errors
      errors_at i l = tabulate_at n _ i 0 l

      -- in how many places from one on and before another the errors change a word
      module _ (c : List ℕ) (same : (i : ℕ) → i < n → at c i ≡ w i) (ascending : (l m : ℕ) → l < m → m < k → at places l < at places m) where
        pub errors_between : (from to : ℕ) → to ≤ n → apart_between from to c (with_errors w places values k n) ≡ weight_between from to places values k
        unfolding apart_between
        errors_between from to inside =
            sum_same (to - from) _ _
            (λ i l. let h : from + i < n = omega arith in ap₂ differs (same (from + i) h) (errors_at (from + i) h) ∙ differs_added (w (from + i)) (error_at places values k (from + i)))
            ∙ weight_between_lem from to k ascending

        pub apart_errors : length c ≡ n → apart c (with_errors w places values k n) ≡ weight_between 0 n places values k
        unfolding apart
        apart_errors long = rw long (errors_between 0 n (le_refl n))

-- ---- syndromes

module _ (es ls : List ℕ) (n : ℕ) where
  pub syndrome_same : (e f : ℕ → ℕ) → ((i : ℕ) → i < n → e i ≡ f i) → (j : ℕ) → syndrome es ls n e j ≡ syndrome es ls n f j
  unfolding syndrome
  syndrome_same e f h j = xor_to_same n _ _ (λ i l. ap (λ (v : ℕ). times_power (table_product es ls) (locator es n i) v j) (h i l))

  module _ (T : Tables es ls) where
    pub syndrome_add : (e f : ℕ → ℕ) (j : ℕ) → syndrome es ls n (λ i. xor (e i) (f i)) j ≡ xor (syndrome es ls n e j) (syndrome es ls n f j)
    syndrome_add e f j =
        rw (syndrome_is es ls T n e j, syndrome_is es ls T n f j, syndrome_is es ls T n (λ i. xor (e i) (f i)) j)
        (power_sum_add (table_ops es ls) (table_laws es ls T) (locator es n) j _ e f)

    -- the value at a^j of a word of n elements is its j-th syndrome
    pub value_syndrome : (b : ℕ → ℕ) → ((i : ℕ) → b i < length ls) → (j : ℕ) → horner (λ v. table_product es ls v (table_power es j)) b n ≡ syndrome es ls n b j
    unfolding locator
    value_syndrome b h j =
        let P = table_powers es ls T in
        table_value_lem es ls _ b n ∙ horner_sums (table_ops es ls) (table_laws es ls T) (table_power es 1) (table_power es) P.first P.next n b h j ∙ sym (syndrome_is es ls T n b j)

  -- what the errors found leave of the syndromes t
  module _ (t places values : List ℕ) (count : ℕ) (left : List ℕ) (D : Decoded es ls t n places values count left) where
    -- if nothing, t are their syndromes
    pub none_left : all_below 1 left ≡ true → (j : ℕ) → j < 16 → at t j ≡ syndrome es ls n (error_at places values count) j
    none_left test j l =
        let z : 0 ≡ at left j = omega (arith, below_at 1 left (lit< tt) test j) in
        sym (xor_zero_r (at t j)) ∙ ap (xor (at t j)) (z ∙ D.left_is j l) ∙ xor_cancel (at t j) _

    -- if t are the syndromes of at most eight errors, nothing
    pub few_leave_none : length left ≡ 16 → (e : ℕ → ℕ) → Correctable es ls t n e → all_below 1 left ≡ true
    few_leave_none long e C =
        below_all 1 left (λ j h. let l : j < 16 = rw long at h in
        let z : at left j ≡ 0 = D.left_is j l ∙ ap₂ xor (C.syndromes j l) (syndrome_same _ e (D.complete e C) j) ∙ xor_self (syndrome es ls n e j) in
        omega arith)
