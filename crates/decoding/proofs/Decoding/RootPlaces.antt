-- The places whose locators are roots of an annihilating polynomial: at most eight, and all errors lie there. Assumes nothing.
use mathlib.Core.Path.{◌≡◌, refl, sym, ap, ap₂, ◌∙◌}
use mathlib.Core.Bool.{cond}
use mathlib.Core.List.{List, ◌∷◌}
use Prim.Native.Nat.{ℕ, zero, suc, ◌+◌, ◌-◌, ◌≤◌, ◌<◌}
use native.Mathlib.Decide.{dec_lt}
use native.Mathlib.Nat.{le_refl}
use native.Mathlib.Omega.{arith}
use borrow.Author.Tests.{eq-eqb, ne_eqb}
use lib.Dec.{eqb}
use lib.ListN.{length}
use Rattle.fields.specs.Elements.{xor}
use Rattle.fields.specs.Steps.ByTables.{table_product}
use Rattle.fields.specs.Places.{at, differs}
use Rattle.decoding.specs.Steps.ByTables.{table_value}
use Rattle.decoding.specs.Steps.Decoder.{Correctable, Tables, locator}
use Rattle.decoding.specs.Steps.Annihilator.{applied, Annihilates}
use Rattle.decoding.specs.Steps.RootSearch.{root_places}
use Rattle.decoding.proofs.Algebra.Field.{Ops, Laws, All, all_map, Apart, upto, upto_apart, all_upto, zero-add}
use Rattle.decoding.proofs.Algebra.PowerSums.{sum, power_sum, value_at}
use Rattle.decoding.proofs.Algebra.Support.{support, support_nonzero, all_support, support_apart, support_power_sum, support_count}
use Rattle.decoding.proofs.Algebra.Locators.{applied_to, locates, vanishes}
use Rattle.decoding.proofs.Algebra.Elements.{is_zero}
use Rattle.decoding.proofs.Algebra.Tables.{table_ops, table_laws, table_powers, table_value_is, syndrome_is}

applied_is : (es ls : List ℕ) (b : ℕ → ℕ) (n : ℕ) (s u : ℕ → ℕ) → ((k : ℕ) → k < n → u k ≡ s k) →
    applied_to (table_ops es ls) b n u ≡ applied (table_product es ls) b n s
unfolding applied applied_to
applied_is es ls b zero s u same = refl
applied_is es ls b (suc n) s u same =
    ap₂ (λ (x y : ℕ). xor x (table_product es ls (b n) y)) (applied_is es ls b n (λ k. s (suc k)) (λ k. u (suc k)) (λ k l. same (suc k) (omega arith)))
    (same 0 (omega arith))

module _ (es ls : List ℕ) (T : Tables es ls) (n : ℕ) where
  abbrev O : Ops ℕ
  O = table_ops es ls

  abbrev X : ℕ → ℕ
  X = locator es n

  K : Laws O (λ a. a < length ls)
  K = table_laws es ls T

  pub locator_in : (i : ℕ) → X i < length ls
  unfolding locator
  locator_in i = (table_powers es ls T).inside _

  pub locators_distinct : n ≤ length es → (i k : ℕ) → i < k → k < n → ¬ (X i ≡ X k)
  unfolding locator
  locators_distinct fits i k h l e = (table_powers es ls T).distinct (n - suc k) (n - suc i) (omega arith) (omega arith) (sym e)

  module _ (v : List ℕ) where
    abbrev root : ℕ → Type 0
    root i = table_value es ls v (X i) ≡ 0

    abbrev roots : ℕ → List ℕ
    roots i = root_places es ls v n i

    -- by cases: place i is a root, or it is not
    root_cases : (P : List ℕ → Type 0) (i : ℕ) → (root i → P (i ∷ roots i)) → (¬ root i → P (roots i)) → P (roots (suc i))
    unfolding root_places
    root_cases P i here not = go (is_zero (table_value es ls v (X i)))
      where
        go : Dec (root i) → P (cond (eqb (table_value es ls v (X i)) 0) (i ∷ roots i) (roots i))
        go (yes z) = rw (eq-eqb (table_value es ls v (X i)) 0 z) (here z)
        go (no z) = rw (ne_eqb (table_value es ls v (X i)) 0 z) (not z)

    roots_all : (P : ℕ → Type 0) (i : ℕ) → ((k : ℕ) → k < i → root k → P k) → All P (roots i)
    unfolding root_places
    roots_all P zero h = tt
    roots_all P (suc i) h =
        let before : All P (roots i) = roots_all P i (λ k l. h k (omega arith)) in
        root_cases (All P) i (λ z. (h i (le_refl (suc i)) z, before)) (λ z. before)

    roots_apart : n ≤ length es → (i : ℕ) → i ≤ n → Apart X (roots i)
    unfolding root_places
    roots_apart fits zero h = tt
    roots_apart fits (suc i) h =
        let before : Apart X (roots i) = roots_apart fits i (omega arith) in
        root_cases (Apart X) i (λ z. (roots_all (λ k. ¬ (X k ≡ X i)) i (λ k l q. locators_distinct fits k i l h), before)) (λ z. before)

    -- what is zero at the places that are no roots has the same sum over the roots as over all places
    roots_sum : (f : ℕ → ℕ) (i : ℕ) → ((k : ℕ) → k < i → ¬ root k → f k ≡ 0) →
        sum O f (roots i) ≡ sum O f (upto i)
    unfolding root_places sum upto
    roots_sum f zero h = refl
    roots_sum f (suc i) h =
        let before : sum O f (roots i) ≡ sum O f (upto i) = roots_sum f i (λ k l. h k (omega arith)) in
        root_cases (λ ps. sum O f ps ≡ xor (f i) (sum O f (upto i))) i (λ z. ap (xor (f i)) before)
        (λ z. before ∙ sym (ap (λ (x : ℕ). xor x (sum O f (upto i))) (h i (le_refl (suc i)) z) ∙ zero-add O K _))

    -- v annihilates the syndromes t
    module _ (fits : n ≤ length es) (t : List ℕ) (A : Annihilates es ls t v) (nine : length v ≡ 9) where
      value_is : (i : ℕ) → table_value es ls v (X i) ≡ value_at O (X i) (at v) 9
      value_is i = table_value_is es ls v (X i) 9 nine

      pub few_roots : length (roots n) ≤ 8
      few_roots = go (dec_lt 8 (length (roots n)))
        where
          go : Dec (8 < length (roots n)) → length (roots n) ≤ 8
          go (no h) = omega arith
          go (yes h) =
              absurd (K.one_not_zero (sym A.leading_one
              ∙ vanishes O K X locator_in 9 (at v) A.elements (roots n) h (roots_apart fits n (le_refl n))
              (roots_all (λ i. value_at O (X i) (at v) 9 ≡ 0) n (λ i l z. sym (value_is i) ∙ z)) A.leading A.leading_lt))

      module _ (e : ℕ → ℕ) (C : Correctable es ls t n e) where
        abbrev wrong : List ℕ
        wrong = support O is_zero e (upto n)

        few_wrong : length wrong ≤ 8
        unfolding differs
        few_wrong = rw (support_count O is_zero e (λ i. differs (e i) 0) (λ i z. rw (eq-eqb (e i) 0 z)) (λ i z. rw (ne_eqb (e i) 0 z)) n) C.few

        wrong_sums : (j : ℕ) → j < 16 → power_sum O X e wrong j ≡ at t j
        wrong_sums j h = support_power_sum O is_zero e K X j e (λ i z. z) (upto n) ∙ sym (syndrome_is es ls T n e j) ∙ sym (C.syndromes j h)

        located : All (λ i. value_at O (X i) (at v) 9 ≡ 0) wrong
        located =
            locates O K X locator_in 8 wrong few_wrong (support_apart O is_zero e X (upto n) (upto_apart X n (locators_distinct fits))) e C.elements
            (support_nonzero O is_zero e (upto n)) 9 (at v) A.elements
            (λ j h. applied_is es ls (at v) 9 (λ k. at t (j + k)) _ (λ k l. wrong_sums (j + k) (omega arith)) ∙ A.equations j h)

        -- no error where there is no root
        outside : (i : ℕ) → i < n → ¬ root i → e i ≡ 0
        outside i h z = go (is_zero (e i))
          where
            wrong_root : All (λ i. ¬ (e i ≡ 0) → root i) (upto n)
            wrong_root = all_support O is_zero e (λ i. ¬ (e i ≡ 0) → root i) (λ i y q. absurd (q y)) (upto n) (all_map (λ i y q. value_is i ∙ y) wrong located)

            go : Dec (e i ≡ 0) → e i ≡ 0
            go (yes y) = y
            go (no y) = absurd (z (all_upto (λ i. ¬ (e i ≡ 0) → root i) n wrong_root i h y))

        -- sums over the errors are sums over the roots
        pub covers : (f : ℕ → ℕ) → ((i : ℕ) → e i ≡ 0 → f i ≡ 0) → sum O f (roots n) ≡ sum O f (upto n)
        covers f h = roots_sum f n (λ i l z. h i (outside i l z))
