-- Errors in at most eight places each that have the same sixteen syndromes are the same. Assumes nothing.
use mathlib.Core.Path.{◌≡◌, sym, ◌∙◌}
use mathlib.Core.Bool.{Bool, true, false, cond}
use mathlib.Core.List.{List}
use Prim.Native.Nat.{ℕ, zero, suc, ◌+◌, ◌≤◌, ◌<◌}
use native.Mathlib.Nat.{zero-add}
use native.Mathlib.Omega.{arith}
use borrow.Author.Tests.{eq-eqb, ne_eqb}
use lib.Dec.{eqb}
use lib.ListN.{length}
use Rattle.fields.specs.Elements.{xor}
use Rattle.fields.specs.Steps.ByTables.{table_power}
use Rattle.fields.specs.Places.{at, sum_to, differs}
use Rattle.fields.proofs.Places.Counting.{differs_by, differs_none, sum_add, sum_mono}
use Rattle.decoding.specs.Steps.Decoder.{Tables, xor_to, syndrome, error_at}
use Rattle.decoding.proofs.Algebra.Field.{Ops, Laws, upto, eq_of_add}
use Rattle.decoding.proofs.Algebra.Support.{support, support_count}
use Rattle.decoding.proofs.Algebra.Distance.{distance}
use Rattle.decoding.proofs.Algebra.Elements.{is_zero}
use Rattle.decoding.proofs.Algebra.Tables.{table_ops, Powers, table_laws, table_powers, table_value_lem}
use Rattle.decoding.proofs.Decoding.Changes.{value_syndrome}

module _ (es ls : List ℕ) (T : Tables es ls) where
  abbrev O : Ops ℕ
  O = table_ops es ls

  K : Laws O (λ a. a < length ls)
  K = table_laws es ls T

  P : Powers es ls
  P = table_powers es ls T

  pub errors_in : (places values : List ℕ) → ((l : ℕ) → at values l < length ls) → (k i : ℕ) → error_at places values k i < length ls
  unfolding error_at xor_to
  errors_in places values h zero i = K.in_zero
  errors_in places values h (suc k) i = K.in_add _ _ (errors_in places values h k i) (go (eqb (at places k) i))
    where
      go : (b : Bool) → cond b (at values k) 0 < length ls
      go true = h k
      go false = K.in_zero

  module _ (n : ℕ) (fits : n ≤ length es) (u w : ℕ → ℕ) (in-u : (i : ℕ) → u i < length ls) (in-w : (i : ℕ) → w i < length ls) where
    -- where either is not zero the sum may not be
    few_differ : sum_to n (λ i. differs (u i) 0) ≤ 8 → sum_to n (λ i. differs (w i) 0) ≤ 8 → length (support O is_zero (λ i. xor (u i) (w i)) (upto n)) ≤ 16
    unfolding differs
    few_differ few-u few-w =
        let count : length (support O is_zero (λ i. xor (u i) (w i)) (upto n)) ≡ sum_to n (λ i. differs (u i) (w i)) =
        support_count O is_zero (λ i. xor (u i) (w i)) (λ i. differs (u i) (w i)) (λ i z. rw (eq-eqb (u i) (w i) (eq_of_add O K z)))
        (λ i z. rw (ne_eqb (u i) (w i) (λ e. z (rw e (K.add_self (w i)))))) n in
        omega (
          arith,
          count,
          sum_add n (λ i. differs (u i) 0) (λ i. differs (w i) 0),
          sum_mono n (λ i. differs (u i) (w i)) (λ i. differs (u i) 0 + differs (w i) 0)
              (λ i l. differs_by (u i) (w i) _ (λ z. differs_none (u i) 0 (omega arith) ∙ sym (differs_none (w i) 0 (omega arith)))),
        )

    pub errors_unique : ((j : ℕ) → j < 16 → syndrome es ls n u j ≡ syndrome es ls n w j) → sum_to n (λ i. differs (u i) 0) ≤ 8 → sum_to n (λ i. differs (w i) 0) ≤ 8 →
        (i : ℕ) → i < n → u i ≡ w i
    errors_unique same few-u few-w =
        distance O K is_zero (table_power es 1) (table_power es) P.first P.next P.nonzero n (λ i j h l. P.distinct i j h (omega arith)) 0 16 u w in-u in-w
        (λ j h. rw zero-add (sym (table_value_lem es ls _ u n) ∙ value_syndrome es ls n T u in-u j ∙ same j h ∙ sym (value_syndrome es ls n T w in-w j) ∙ table_value_lem es ls _ w n))
        (few_differ few-u few-w)
