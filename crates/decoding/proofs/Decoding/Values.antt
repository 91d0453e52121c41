-- The value of an error: filtering the other locators out of the power sums leaves a multiple of it. Assumes nothing.
use mathlib.Core.Path.{◌≡◌, sym, ap, ap₂, ◌∙◌, fun_ext}
use mathlib.Core.List.{List, ◌∷◌}
use Prim.Native.Nat.{ℕ, zero, suc, ◌+◌, ◌<◌}
use native.Mathlib.Nat.{le_refl}
use native.Mathlib.Omega.{arith}
use lib.ListN.{length}
use Rattle.fields.specs.Elements.{xor}
use Rattle.fields.specs.Steps.ByTables.{table_product, table_inverse}
use Rattle.fields.specs.Places.{at}
use Rattle.fields.proofs.Lists.{tabulate_at}
use Rattle.decoding.specs.Steps.Decoder.{Tables, locator, times_power}
use Rattle.decoding.specs.Steps.RootSearch.{backwards}
use Rattle.decoding.specs.Steps.ErrorValues.{filtered, filtered_by, filter_factor, error_value, less_error}
use Rattle.decoding.proofs.Algebra.Field as F
use Rattle.decoding.proofs.Algebra.Field.{Ops, Laws, All, all_map, cancel, eq_of_add, mul_left, undo}
use Rattle.decoding.proofs.Algebra.PowerSums.{sum, power_sum, sum_zero, power_sum_filter}
use Rattle.decoding.proofs.Algebra.Tables.{table_ops, table_laws, power_sum_terms}
use Rattle.decoding.proofs.Decoding.RootPlaces.{locator_in}

module _ (es ls : List ℕ) (T : Tables es ls) (n : ℕ) where
  abbrev O : Ops ℕ
  O = table_ops es ls

  abbrev X : ℕ → ℕ
  X = locator es n

  K : Laws O (λ a. a < length ls)
  K = table_laws es ls T

  module _ (places : List ℕ) where
    abbrev factor : ℕ → ℕ → ℕ
    factor x k = filter_factor es ls n places x k

    factor_in : (x k : ℕ) → factor x k < length ls
    unfolding filter_factor
    factor_in x zero = K.in_one
    factor_in x (suc k) = K.in_mul _ _

    -- a locator that is filtered out has the factor 0, any other has not
    factor_zero : (k : ℕ) → All (λ i. factor (X i) k ≡ 0) (backwards places k)
    unfolding filter_factor backwards
    factor_zero zero = tt
    factor_zero (suc k) = (
      ap (table_product es ls (factor (X (at places k)) k)) (K.add_self _) ∙ F.mul-zero O K _,
      all_map (λ i z. ap (λ (f : ℕ). table_product es ls f (xor (X i) (X (at places k)))) z ∙ F.zero-mul O K _) (backwards places k) (factor_zero k),
    )

    factor_nonzero : (x : ℕ) → x < length ls → (k : ℕ) → ((i : ℕ) → i < k → ¬ (x ≡ X (at places i))) → ¬ (factor x k ≡ 0)
    unfolding filter_factor
    factor_nonzero x h zero d e = K.one_not_zero e
    factor_nonzero x h (suc k) d e =
        let before : ¬ (factor x k ≡ 0) = factor_nonzero x h k (λ i l. d i (omega arith)) in
        d k (le_refl (suc k)) (eq_of_add O K (cancel O K (K.in_add _ _ h (locator_in es ls T n _)) (factor_in x k) before e))

    -- the places' locators, filtered out of the power sums t of the errors e
    module _ (e : ℕ → ℕ) (in_e : (i : ℕ) → e i < length ls) (t ps : List ℕ) (sums : (j : ℕ) → j < 16 → at t j ≡ power_sum O X e ps j) where
      filtered_sums : (k j : ℕ) → j + k < 16 →
          at (filtered_by es ls n places t k) j ≡ power_sum O X (λ i. table_product es ls (factor (X i) k) (e i)) ps j
      unfolding filtered_by filter_factor filtered
      filtered_sums zero j h = sums j (omega arith) ∙ ap (λ f. power_sum O X f ps j) (fun_ext (λ i. sym (K.one-mul (e i) (in_e i))))
      filtered_sums (suc k) j h =
          tabulate_at 16 _ j 0 (omega arith)
          ∙ ap₂ (λ (a b : ℕ). xor a (table_product es ls (X (at places k)) b)) (filtered_sums k (suc j) (omega arith)) (filtered_sums k j (omega arith))
          ∙ sym (power_sum_filter O K X j ps (X (at places k)) (λ i. table_product es ls (factor (X i) k) (e i)))
          ∙ ap (λ f. power_sum O X f ps j) (fun_ext (λ i. mul_left O K _ (factor (X i) k) (e i) ∙ sym (K.mul_assoc (factor (X i) k) _ (e i))))

    -- if t are the power sums over the first k + 1 places, whose locators are distinct, this is the error at the last
    pub value_right : (e : ℕ → ℕ) → ((i : ℕ) → e i < length ls) → (t : List ℕ) (k : ℕ) → k < 16 → ((i : ℕ) → i < k → ¬ (X (at places k) ≡ X (at places i))) →
        ((j : ℕ) → j < 16 → at t j ≡ power_sum O X e (backwards places (suc k)) j) → error_value es ls n places t k ≡ e (at places k)
    unfolding error_value backwards power_sum sum
    value_right e in_e t k h distinct sums = ap (λ (s : ℕ). table_product es ls s (table_inverse es ls f)) left ∙ undone
      where
        f : ℕ
        f = factor (X (at places k)) k

        v : ℕ
        v = e (at places k)

        others : sum O (λ i. table_product es ls (factor (X i) k) (e i)) (backwards places k) ≡ 0
        others =
            sum_zero O K (backwards places k) _
            (all_map (λ i z. ap (λ (f : ℕ). table_product es ls f (e i)) z ∙ F.zero-mul O K (e i)) (backwards places k) (factor_zero k))

        left : at (filtered_by es ls n places t k) 0 ≡ table_product es ls f v
        left = filtered_sums e in_e t (at places k ∷ backwards places k) sums k 0 (omega arith) ∙ ap (xor (table_product es ls f v)) others ∙ F.add-zero O K _

        nonzero : ¬ (f ≡ 0)
        nonzero = factor_nonzero (X (at places k)) (locator_in es ls T n (at places k)) k distinct

        undone : table_product es ls (table_product es ls f v) (table_inverse es ls f) ≡ v
        undone = F.mul_comm O K _ _ ∙ undo O K (in_e (at places k)) (factor_in (X (at places k)) k) nonzero

  -- an error taken away from the power sums
  pub less_at : (x v : ℕ) (t : List ℕ) (j : ℕ) → j < 16 → at (less_error es ls x v t) j ≡ xor (at t j) (times_power (table_product es ls) x v j)
  unfolding less_error
  less_at x v t j h = tabulate_at 16 _ j 0 h

  pub less_sums : (e : ℕ → ℕ) (t : List ℕ) (i : ℕ) (ps : List ℕ) → ((j : ℕ) → j < 16 → at t j ≡ power_sum O X e (i ∷ ps) j) →
      (j : ℕ) → j < 16 → at (less_error es ls (X i) (e i) t) j ≡ power_sum O X e ps j
  unfolding sum
  less_sums e t i ps sums j h =
      let c = times_power (table_product es ls) (X i) (e i) j in
      less_at (X i) (e i) t j h ∙ ap (λ (s : ℕ). xor s c) (sums j h ∙ power_sum_terms es ls X e (i ∷ ps) j) ∙ K.add_comm _ c ∙ F.add_same O K c _
      ∙ sym (power_sum_terms es ls X e ps j)
