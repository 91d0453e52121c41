-- The support of e: the positions of a list at which it is not zero. Assumes nothing.
use mathlib.Core.Path.{◌≡◌, refl, ap}
use mathlib.Core.List.{List, [], ◌∷◌}
use Prim.Native.Nat.{ℕ, zero, suc, ◌+◌}
use native.Mathlib.Omega.{arith}
use lib.ListN.{length}
use Rattle.fields.specs.Places.{sum_to}
use Rattle.decoding.proofs.Algebra.Field.{Ops, Laws, All, Apart, upto, zero-add, mul-zero}
use Rattle.decoding.proofs.Algebra.PowerSums.{sum, power_sum}

-- the list ps, with i before it unless P holds
abbrev pub keep : {P I : Type 0} → Dec P → I → List I → List I
keep (yes _) i ps = ps
keep (no _) i ps = i ∷ ps

module _ {A : Type 0} (O : Ops A) (dec : (a : A) → Dec (a ≡ O.𝟘)) {I : Type 0} (e : I → A) where
  open O use {◌⊕◌, 𝟘}

  infixl 65 ◌⊕◌
  unfoldable pub support : List I → List I
  support [] = []
  support (i ∷ ps) = keep (dec (e i)) i (support ps)

  pub support_all : (P : I → Type 0) (ps : List I) → All P ps → All P (support ps)
  unfolding support
  support_all P [] h = tt
  support_all P (i ∷ ps) h = go (dec (e i)) (support_all P ps h.1)
    where
      go : (d : Dec (e i ≡ 𝟘)) → All P (support ps) → All P (keep d i (support ps))
      go (yes _) r = r
      go (no _) r = (h.0, r)

  pub support_nonzero : (ps : List I) → All (λ i. ¬ (e i ≡ 𝟘)) (support ps)
  unfolding support
  support_nonzero [] = tt
  support_nonzero (i ∷ ps) = go (dec (e i)) (support_nonzero ps)
    where
      go : (d : Dec (e i ≡ 𝟘)) → All (λ i. ¬ (e i ≡ 𝟘)) (support ps) → All (λ i. ¬ (e i ≡ 𝟘)) (keep d i (support ps))
      go (yes _) r = r
      go (no z) r = (z, r)

  -- what holds on the support, and where e is zero, holds on the list
  pub all_support : (P : I → Type 0) → ((i : I) → e i ≡ 𝟘 → P i) → (ps : List I) → All P (support ps) → All P ps
  unfolding support
  all_support P f [] h = tt
  all_support P f (i ∷ ps) h = go (dec (e i)) h (all_support P f ps)
    where
      go : (d : Dec (e i ≡ 𝟘)) → All P (keep d i (support ps)) → (All P (support ps) → All P ps) → P i × All P ps
      go (yes z) h r = (f i z, r h)
      go (no _) h r = (h.0, r h.1)

  pub support_apart : (X : I → A) (ps : List I) → Apart X ps → Apart X (support ps)
  unfolding support
  support_apart X [] h = tt
  support_apart X (i ∷ ps) h = go (dec (e i)) (support_apart X ps h.1)
    where
      go : (d : Dec (e i ≡ 𝟘)) → Apart X (support ps) → Apart X (keep d i (support ps))
      go (yes _) r = r
      go (no _) r = (support_all (λ k. ¬ (X k ≡ X i)) ps h.0, r)

  -- what is zero where e is has the same power sums over the support as over the list
  module _ {In : A → Type 0} (K : Laws O In) where
    support_sum : (f : I → A) → ((i : I) → e i ≡ 𝟘 → f i ≡ 𝟘) → (ps : List I) → sum O f (support ps) ≡ sum O f ps
    unfolding support sum
    support_sum f h [] = refl
    support_sum f h (i ∷ ps) = go (dec (e i)) (support_sum f h ps)
      where
        go : (d : Dec (e i ≡ 𝟘)) → sum O f (support ps) ≡ sum O f ps → sum O f (keep d i (support ps)) ≡ f i ⊕ sum O f ps
        go (yes z) r = cc (r, h i z, zero-add O K (sum O f ps))
        go (no _) r = ap (λ x. f i ⊕ x) r

    pub support_power_sum : (X : I → A) (j : ℕ) (f : I → A) → ((i : I) → e i ≡ 𝟘 → f i ≡ 𝟘) → (ps : List I) →
        power_sum O X f (support ps) j ≡ power_sum O X f ps j
    unfolding power_sum
    support_power_sum X zero f h ps = support_sum f h ps
    support_power_sum X (suc j) f h ps = support_power_sum X j _ (λ i z. rw (h i z) (mul-zero O K (X i))) ps

-- how many of n positions are in the support, where d counts 1 for each
pub support_count : {A : Type 0} (O : Ops A) (dec : (a : A) → Dec (a ≡ O.𝟘)) (e : ℕ → A) (d : ℕ → ℕ) → ((i : ℕ) → e i ≡ O.𝟘 → d i ≡ 0) →
    ((i : ℕ) → ¬ (e i ≡ O.𝟘) → d i ≡ 1) → (n : ℕ) → length (support O dec e (upto n)) ≡ sum_to n d
unfolding support upto sum_to
support_count O dec e d none one zero = refl
support_count O dec e d none one (suc n) = go (dec (e n)) (support_count O dec e d none one n)
  where
    go : (b : Dec (e n ≡ O.𝟘)) → length (support O dec e (upto n)) ≡ sum_to n d → length (keep b n (support O dec e (upto n))) ≡ sum_to n d + d n
    go (yes z) r = omega (arith, none n z)
    go (no z) r = omega (arith, one n z)
