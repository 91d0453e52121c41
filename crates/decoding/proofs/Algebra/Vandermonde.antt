-- Values whose power sums vanish, as many as there are distinct locators, are zero. Assumes nothing.
use mathlib.Core.Path.{◌≡◌, ap, sym, ◌∙◌}
use mathlib.Core.List.{List, [], ◌∷◌}
use Prim.Native.Nat.{ℕ, zero, suc, ◌+◌, ◌<◌}
use native.Mathlib.Omega.{arith}
use native.Mathlib.Nat as N
use lib.ListN.{length}
use Rattle.decoding.proofs.Algebra.Field.{Ops, Laws, All, all_map, all_zip, Apart, add-zero, zero-add, mul-zero, ring, eq_of_add, cancel}
use Rattle.decoding.proofs.Algebra.PowerSums.{sum, power_sum, sum_zero, power_sum_filter, power_sum_skip}

module _ {A : Type 0} (O : Ops A) {In : A → Type 0} (K : Laws O In) where
  open O use {◌⊕◌, ◌⊙◌, 𝟘}

  infixl 65 ◌⊕◌
  infixl 70 ◌⊙◌
  module _ {I : Type 0} (X : I → A) (in-X : (i : I) → In (X i)) where
    -- by elimination: the first position i falls out of the values (X k + X i) e k
    pub vandermonde : (ps : List I) → Apart X ps → (e : I → A) → ((i : I) → In (e i)) →
        ((j : ℕ) → j < length ps → power_sum O X e ps j ≡ 𝟘) → All (λ i. e i ≡ 𝟘) ps
    unfolding power_sum sum
    vandermonde [] d e ie h = tt
    vandermonde (i ∷ ps) d e ie h =
        let sums : (j : ℕ) → j < length ps → power_sum O X (λ k. (X k ⊕ X i) ⊙ e k) ps j ≡ 𝟘 = λ j l.
        sym (power_sum_skip O K X j i ps _ (simp (ring, K))) ∙ power_sum_filter O K X j (i ∷ ps) (X i) e
        ∙ (cc (h (suc j) (omega arith), h j (omega arith), mul-zero O K (X i), zero-add O K 𝟘)) in
        let rest : All (λ k. e k ≡ 𝟘) ps =
        all_zip (λ k n z. cancel O K (ie k) (K.in_add _ _ (in-X k) (in-X i)) (λ q. n (eq_of_add O K q)) z) ps d.0
        (vandermonde ps d.1 (λ k. (X k ⊕ X i) ⊙ e k) (λ k. K.in_mul _ _) sums) in
        (sym (add-zero O K _) ∙ ap (λ x. e i ⊕ x) (sym (sum_zero O K ps e rest)) ∙ h 0 (omega arith), rest)

    -- values whose power sums vanish from the s-th on are zero, where no locator is zero
    pub vandermonde_from : ((i : I) → ¬ (X i ≡ 𝟘)) → (s : ℕ) (ps : List I) → Apart X ps → (e : I → A) → ((i : I) → In (e i)) →
        ((j : ℕ) → j < length ps → power_sum O X e ps (s + j) ≡ 𝟘) → All (λ i. e i ≡ 𝟘) ps
    unfolding power_sum
    vandermonde_from nz zero ps d e ie h = vandermonde ps d e ie (λ j l. rw N.zero-add at (h j l))
    vandermonde_from nz (suc s) ps d e ie h =
        all_map (λ i z. cancel O K (ie i) (in-X i) (nz i) z) ps
        (vandermonde_from nz s ps d (λ i. X i ⊙ e i) (λ i. K.in_mul _ _) (λ j l. rw N.suc-add at (h j l)))
