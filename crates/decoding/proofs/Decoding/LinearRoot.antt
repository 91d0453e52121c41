-- The root of a polynomial c x + d, by its exponent: a law for each way through `linear_root`. Assumes nothing.
use mathlib.Core.Path.{◌≡◌, refl, sym, ap, ap₂, ◌∙◌}
use mathlib.Core.List.{List}
use Prim.Native.Nat.{ℕ, zero, suc, ◌-◌, ◌≤◌, ◌<◌}
use native.Mathlib.Decide.{dec_lt}
use native.Mathlib.Nat.{le_refl}
use native.Mathlib.Omega.{arith}
use lib.ListN.{length, get_or}
use Rattle.fields.specs.Elements.{xor}
use Rattle.fields.specs.Steps.ByTables.{table_product, table_inverse, table_power}
use Rattle.fields.specs.Places.{at, horner}
use Rattle.fields.proofs.Xor.{xor_zero_l}
use Rattle.decoding.specs.Steps.ByTables.{table_value}
use Rattle.decoding.specs.Steps.Decoder.{Tables, locator}
use Rattle.decoding.specs.Steps.RootSearch.{less_modulo, RootAt, FirstRoot}
use Rattle.decoding.proofs.Algebra.Field.{Ops, Laws, cancel, eq_of_add, undo, zero-mul}
use Rattle.decoding.proofs.Algebra.Tables.{table_ops, Powers, table_laws, table_powers, table_exponent, table_power_at}
use Rattle.decoding.proofs.Decoding.RootPlaces.{locator_in}
use Rattle.decoding.proofs.Decoding.Search.{less_lt, less_power_lem}

-- the first n coefficients are zero, if there are as many that are
pub zeros_fewer : (v : List ℕ) (n r : ℕ) → n ≤ r → ((k : ℕ) → k < r → at v k ≡ 0) → (k : ℕ) → k < n → at v k ≡ 0
zeros_fewer v n r h z k l = z k (omega arith)

pub coefficient_exponent : (es ls v : List ℕ) → Tables es ls → ((k : ℕ) → at v k < length ls) → (k e : ℕ) → (get_or v k 0 ≡ 0 → ⊥) → e ≡ at ls (get_or v k 0) → e < length es
coefficient_exponent es ls v T elements k e n q = rw q (table_exponent es ls T (at v k) n (elements k)).0

module _ (es ls v : List ℕ) (T : Tables es ls) (n i : ℕ) (fits : n ≤ length es) (from : i ≤ n) (elements : (k : ℕ) → at v k < length ls)
    (high : (k : ℕ) → k < 7 → at v k ≡ 0) (nine : length v ≡ 9) where
  abbrev O : Ops ℕ
  O = table_ops es ls

  K : Laws O (λ a. a < length ls)
  K = table_laws es ls T

  P : Powers es ls
  P = table_powers es ls T

  abbrev X : ℕ → ℕ
  X = locator es n

  abbrev c : ℕ
  c = get_or v 7 0

  abbrev d : ℕ
  d = get_or v 8 0

  zeros_value : (x k : ℕ) → k ≤ 7 → horner (λ u. table_product es ls u x) (at v) k ≡ 0
  unfolding horner
  zeros_value x zero h = refl
  zeros_value x (suc k) h =
      ap₂ (λ (a b : ℕ). xor (table_product es ls a x) b) (zeros_value x k (omega arith)) (high k h) ∙ ap (λ (a : ℕ). xor a 0) (zero-mul O K x)
      ∙ xor_zero_l 0

  value_is : (x : ℕ) → table_value es ls v x ≡ xor (table_product es ls c x) d
  unfolding table_value horner
  value_is x =
      rw nine (ap (λ (a : ℕ). xor (table_product es ls (xor (table_product es ls a x) c) x) d) (zeros_value x 7 (le_refl 7))
      ∙ ap (λ (a : ℕ). xor (table_product es ls (xor a c) x) d) (zero-mul O K x) ∙ ap (λ (a : ℕ). xor (table_product es ls a x) d) (xor_zero_l c))

  -- a root at place k, if there is none from i on
  none : ((k : ℕ) → k < n → RootAt es ls v n k → ⊥) → FirstRoot es ls v n i n
  none h = record { from = from; most = le_refl n; before = λ k lo hi. h k hi; here = λ b. absurd (omega arith) }

  module _ (none-c : c ≡ 0) where
    constant : (k : ℕ) → table_value es ls v (X k) ≡ d
    constant k = value_is (X k) ∙ ap (λ (a : ℕ). xor (table_product es ls a (X k)) d) none-c ∙ ap (λ (a : ℕ). xor a d) (zero-mul O K (X k)) ∙ xor_zero_l d

    pub all_roots : d ≡ 0 → FirstRoot es ls v n i i
    all_roots z = record { from = le_refl i; most = from; before = λ k lo hi. absurd (omega arith); here = λ b. constant i ∙ z }

    pub all_past : n ≤ i → FirstRoot es ls v n i n
    all_past h = record { from = from; most = le_refl n; before = λ k lo hi. absurd (omega arith); here = λ b. absurd (omega arith) }

    pub constant_none : (d ≡ 0 → ⊥) → FirstRoot es ls v n i n
    constant_none z = none (λ k h r. z (sym (constant k) ∙ r))

  module _ (some-c : c ≡ 0 → ⊥) where
    product_is : (k : ℕ) → RootAt es ls v n k → table_product es ls c (X k) ≡ d
    product_is k r = eq_of_add O K (sym (value_is (X k)) ∙ r)

    locator_not : (k : ℕ) → ¬ (X k ≡ 0)
    unfolding locator
    locator_not k = P.nonzero _

    -- 0 is no locator
    pub zero_none : d ≡ 0 → FirstRoot es ls v n i n
    zero_none z = none (λ k h r. locator_not k (cancel O K (locator_in es ls T n k) (elements 7) some-c (product_is k r ∙ z)))

    module _ (some-d : d ≡ 0 → ⊥) (a b e : ℕ) (ea : a ≡ at ls d) (eb : b ≡ at ls c) (ee : e ≡ less_modulo (length es) a b) where
      by_c : (at ls c < length es) × (at es (at ls c) ≡ c)
      by_c = table_exponent es ls T c some-c (elements 7)

      by_d : (at ls d < length es) × (at es (at ls d) ≡ d)
      by_d = table_exponent es ls T d some-d (elements 8)

      e_is : e ≡ less_modulo (length es) (at ls d) (at ls c)
      e_is = ee ∙ ap₂ (less_modulo (length es)) ea eb

      inside : e < length es
      inside = rw e_is (less_lt (length es) (at ls d) (at ls c) by_d.0 by_c.0)

      -- d / c
      quotient : table_product es ls (table_inverse es ls c) d ≡ table_power es e
      quotient =
          ap₂ (λ (x y : ℕ). table_product es ls (table_inverse es ls x) y) (sym by_c.1) (sym by_d.1) ∙ less_power_lem es ls T (at ls d) (at ls c) by_d.0 by_c.0
          ∙ ap (at es) (sym e_is) ∙ table_power_at es ls T e inside

      same_exponent : (f : ℕ) → f < length es → table_power es f ≡ table_power es e → f ≡ e
      same_exponent f h q = go (dec_lt f e) (dec_lt e f)
        where
          go : Dec (f < e) → Dec (e < f) → f ≡ e
          go (yes l) _ = absurd (P.distinct f e l inside q)
          go (no l) (yes g) = absurd (P.distinct e f g h (sym q))
          go (no l) (no g) = omega arith

      root_at : (k : ℕ) → k < n → RootAt es ls v n k → n - suc k ≡ e
      unfolding locator
      root_at k h r =
          same_exponent (n - suc k) (omega arith)
          (sym (undo O K (locator_in es ls T n k) (elements 7) some-c) ∙ ap (table_product es ls (table_inverse es ls c)) (product_is k r) ∙ quotient)

      at_root : (k : ℕ) → n - suc k ≡ e → RootAt es ls v n k
      unfolding locator
      at_root k q =
          value_is (X k) ∙ ap (λ (f : ℕ). xor (table_product es ls c (table_power es f)) d) q
          ∙ ap (λ (x : ℕ). xor (table_product es ls c x) d) (sym quotient)
          ∙ ap (λ (x : ℕ). xor x d) (sym (K.mul_assoc c (table_inverse es ls c) d) ∙ ap (λ (x : ℕ). table_product es ls x d) (K.mul_inv c (elements 7) some-c) ∙ K.one-mul d (elements 8))
          ∙ K.add_self d

      pub front_none : n ≤ e → FirstRoot es ls v n i n
      front_none h = none (λ k l r. absurd (omega (arith, root_at k l r)))

      module _ (e_lt : e < n) where
        pub before_none : n - 1 - e < i → FirstRoot es ls v n i n
        before_none h =
            record { from = from; most = le_refl n; before = λ k lo hi r. absurd (omega (arith, root_at k hi r)); here = λ b. absurd (omega arith) }

        pub root_here : i ≤ n - 1 - e → FirstRoot es ls v n i (n - 1 - e)
        root_here h =
            record {
              from = h;
              most = omega arith;
              before = λ k lo hi r. absurd (omega (arith, root_at k (omega arith) r));
              here = λ b. at_root (n - 1 - e) (omega arith);
            }
