-- Words that agree at k successive powers of an element and differ in at most k places are equal. Assumes nothing.
use mathlib.Core.Path.{◌≡◌, sym, ap₂, ◌∙◌}
use mathlib.Core.List.{List}
use Prim.Native.Nat.{ℕ, suc, ◌+◌, ◌-◌, ◌≤◌, ◌<◌}
use native.Mathlib.Omega.{arith}
use lib.ListN.{length}
use Rattle.decoding.proofs.Algebra.Field.{Ops, Laws, All, upto, upto_apart, all_upto, add_self, eq_of_add}
use Rattle.decoding.proofs.Algebra.PowerSums.{power_sum, value_at, power_sum_add, in_powers, horner_sums}
use Rattle.decoding.proofs.Algebra.Vandermonde.{vandermonde_from}
use Rattle.decoding.proofs.Algebra.Support.{support, all_support, support_apart, support_power_sum}

module _ {A : Type 0} (O : Ops A) {In : A → Type 0} (K : Laws O In) (dec : (a : A) → Dec (a ≡ O.𝟘)) where
  open O use {◌⊕◌, ◌⊙◌, 𝟘, 𝟙}

  infixl 65 ◌⊕◌
  infixl 70 ◌⊙◌
  -- X is the sequence of the powers of a, the first n of them distinct
  module _ (a : A) (X : ℕ → A) (first : X 0 ≡ 𝟙) (next : (i : ℕ) → X (suc i) ≡ a ⊙ X i) (nonzero : (i : ℕ) → ¬ (X i ≡ 𝟘)) (n : ℕ)
      (distinct : (i j : ℕ) → i < j → j < n → ¬ (X i ≡ X j)) where
    -- s is the exponent of the first power, k their number, n the length
    pub distance : (s k : ℕ) (b c : ℕ → A) → ((i : ℕ) → In (b i)) → ((i : ℕ) → In (c i)) →
        ((j : ℕ) → j < k → value_at O (X (s + j)) b n ≡ value_at O (X (s + j)) c n) → length (support O dec (λ i. b i ⊕ c i) (upto n)) ≤ k →
        (i : ℕ) → i < n → b i ≡ c i
    distance s k b c ib ic same few i l =
        eq_of_add O K (all_upto (λ i. e i ≡ 𝟘) n (all_support O dec e (λ i. e i ≡ 𝟘) (λ i z. z) (upto n) zero_on) i l)
      where
        e : ℕ → A
        e i = b i ⊕ c i

        Y : ℕ → A
        Y i = X (n - suc i)

        ps : List ℕ
        ps = support O dec e (upto n)

        sums : (j : ℕ) → j < length ps → power_sum O Y e ps (s + j) ≡ 𝟘
        sums j l =
            support_power_sum O dec e K Y (s + j) e (λ i z. z) (upto n) ∙ power_sum_add O K Y (s + j) (upto n) b c
            ∙ ap₂ (λ x y. x ⊕ y) (sym (values b ib) ∙ same j (omega arith)) (sym (values c ic)) ∙ add_self O K _
          where
            values : (w : ℕ → A) → ((i : ℕ) → In (w i)) → value_at O (X (s + j)) w n ≡ power_sum O Y w (upto n) (s + j)
            values w iw = horner_sums O K a X first next n w iw (s + j)

        zero_on : All (λ i. e i ≡ 𝟘) ps
        zero_on =
            vandermonde_from O K Y (λ i. in_powers O K a X first next _) (λ i. nonzero _) s ps
            (support_apart O dec e Y (upto n) (upto_apart Y n (λ i k h l q. distinct (n - suc k) (n - suc i) (omega arith) (omega arith) (sym q))))
            e (λ i. K.in_add _ _ (ib i) (ic i)) sums
