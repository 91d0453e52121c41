-- A polynomial that annihilates power sums has the locators for roots; a polynomial with as many roots as coefficients is zero. Assumes nothing.
use mathlib.Core.Path.{◌≡◌, refl, sym, ap, ap₂, ◌∙◌, fun_ext}
use mathlib.Core.List.{List, [], ◌∷◌}
use Prim.Native.Nat.{ℕ, zero, suc, ◌+◌, ◌≤◌, ◌<◌}
use native.Mathlib.Decide.{dec_lt}
use native.Mathlib.Omega.{arith}
use native.Mathlib.Nat as N
use lib.ListN.{length}
use Rattle.decoding.proofs.Algebra.Field.{Ops, Laws, All, all_zip, Apart, add-zero, zero-add, mul_comm, mul_assoc, mul-add, mul-zero, zero-mul, ring, eq_of_add, cancel}
use Rattle.decoding.proofs.Algebra.PowerSums.{sum, power_sum, value_at, sum_add, sum_mul, value_in}
use Rattle.decoding.proofs.Algebra.Vandermonde.{vandermonde}

module _ {A : Type 0} (O : Ops A) where
  open O use {◌⊕◌, ◌⊙◌, 𝟘, 𝟙}

  infixl 65 ◌⊕◌
  infixl 70 ◌⊙◌
  -- the polynomial b of n coefficients, highest power first, applied to the sequence s: x^k stands for s k
  unfoldable pub applied_to : (ℕ → A) → ℕ → (ℕ → A) → A
  applied_to b zero s = 𝟘
  applied_to b (suc n) s = applied_to b n (λ k. s (suc k)) ⊕ b n ⊙ s 0

  pub applied_same : (b c s : ℕ → A) (n : ℕ) → ((k : ℕ) → k < n → b k ≡ c k) → applied_to b n s ≡ applied_to c n s
  unfolding applied_to
  applied_same b c s zero h = refl
  applied_same b c s (suc n) h = ap₂ (λ x y. x ⊕ y ⊙ s 0) (applied_same b c (λ k. s (suc k)) n (λ k l. h k (omega arith))) (h n (N.le_refl (suc n)))

  module _ {In : A → Type 0} (K : Laws O In) where
    pub applied_linear : (c : A) (a b s : ℕ → A) (n : ℕ) → applied_to (λ k. a k ⊕ c ⊙ b k) n s ≡ applied_to a n s ⊕ c ⊙ applied_to b n s
    unfolding applied_to
    applied_linear c a b s zero = simp (ring, K)
    applied_linear c a b s (suc n) = rw (applied_to, applied_linear c a b (λ k. s (suc k)) n) (simp (ring, K))

    pub applied_zero : (b s : ℕ → A) (n : ℕ) → ((k : ℕ) → k < n → b k ≡ 𝟘) → applied_to b n s ≡ 𝟘
    unfolding applied_to
    applied_zero b s zero h = refl
    applied_zero b s (suc n) h =
        ap₂ (λ x y. x ⊕ y ⊙ s 0) (applied_zero b (λ k. s (suc k)) n (λ k l. h k (omega arith))) (h n (N.le_refl (suc n)))
        ∙ zero-add O K _ ∙ zero-mul O K (s 0)

    -- the polynomial x^d
    pub applied_power : (n d : ℕ) → d < n → (b s : ℕ → A) → ((k : ℕ) → k + suc d ≡ n → b k ≡ 𝟙) → ((k : ℕ) → k < n → ¬ (k + suc d ≡ n) → b k ≡ 𝟘) →
        applied_to b n s ≡ 𝟙 ⊙ s d
    unfolding applied_to
    applied_power zero d l b s one others = absurd (N.not-suc-le-zero l)
    applied_power (suc n) zero l b s one others =
        ap₂ (λ x y. x ⊕ y ⊙ s 0) (applied_zero b (λ k. s (suc k)) n (λ k h. others k (omega arith) (λ e. omega arith))) (one n (omega arith)) ∙ zero-add O K _
    applied_power (suc n) (suc d) l b s one others =
        let last : b n ≡ 𝟘 = others n (N.le_refl (suc n)) (λ e. omega arith) in
        let rest : applied_to b n (λ k. s (suc k)) ≡ 𝟙 ⊙ s (suc d) =
        applied_power n d (omega arith) b (λ k. s (suc k)) (λ k e. one k (omega arith)) (λ k h e. others k (omega arith) (λ q. e (omega arith))) in
        cc (last, rest, zero-mul O K (s 0), add-zero O K (𝟙 ⊙ s (suc d)))

    -- synthetic division: the quotient of b by x + r has the coefficients value_at r b k, the first of them 0
    division : (r x : A) (b : ℕ → A) (n : ℕ) → (x ⊕ r) ⊙ value_at O x (value_at O r b) n ≡ value_at O x b n ⊕ value_at O r b n
    unfolding value_at
    division r x b zero = simp (value_at, ring, K)
    division r x b (suc n) = step (division r x b n)
      where
        step : {p q f c : A} → (x ⊕ r) ⊙ f ≡ p ⊕ q → (x ⊕ r) ⊙ (f ⊙ x ⊕ q) ≡ p ⊙ x ⊕ c ⊕ (q ⊙ r ⊕ c)
        step {p} {q} {f} {c} h = rw (mul-add O K, ← mul_assoc O K (x ⊕ r) f x, h) (simp (ring, K))

    -- if r is a root of b and x is not r, then x is a root of b just if it is one of the quotient
    module _ (r x : A) (ir : In r) (ix : In x) (other : ¬ (x ≡ r)) (b : ℕ → A) (ib : (k : ℕ) → In (b k)) (n : ℕ) (root : value_at O r b n ≡ 𝟘) where
      product_is : (x ⊕ r) ⊙ value_at O x (value_at O r b) n ≡ value_at O x b n
      product_is = division r x b n ∙ ap (λ v. value_at O x b n ⊕ v) root ∙ add-zero O K _

      pub quotient_root : value_at O x b n ≡ 𝟘 → value_at O x (value_at O r b) n ≡ 𝟘
      quotient_root z = cancel O K (value_in O K x _ (value_in O K r b ib) n) (K.in_add _ _ ix ir) (λ e. other (eq_of_add O K e)) (product_is ∙ z)

      pub root_quotient : value_at O x (value_at O r b) n ≡ 𝟘 → value_at O x b n ≡ 𝟘
      root_quotient z = sym product_is ∙ ap (λ v. (x ⊕ r) ⊙ v) z ∙ mul-zero O K _

    -- the first coefficient, where s are the powers of x
    pub value_first : (x : A) (s : ℕ → A) → s 0 ≡ 𝟙 → ((k : ℕ) → s (suc k) ≡ x ⊙ s k) → (b : ℕ → A) → ((k : ℕ) → In (b k)) → (n : ℕ) →
        value_at O x b (suc n) ≡ s n ⊙ b 0 ⊕ value_at O x (λ k. b (suc k)) n
    unfolding value_at
    value_first x s first next b ib zero = rw first (cc (K.one-mul (b 0) (ib 0), zero-mul O K x, zero-add O K (b 0), add-zero O K (b 0)))
    value_first x s first next b ib (suc n) =
        ap (λ v. v ⊙ x ⊕ b (suc n)) (value_first x s first next b ib n) ∙ rw next (simp (ring, K))

    value_tail : (x : A) (b : ℕ → A) → b 0 ≡ 𝟘 → (n : ℕ) → value_at O x b (suc n) ≡ value_at O x (λ k. b (suc k)) n
    unfolding value_at
    value_tail x b z zero = cc (z, zero-mul O K x, zero-add O K 𝟘)
    value_tail x b z (suc n) = ap (λ v. v ⊙ x ⊕ b (suc n)) (value_tail x b z n)

    -- if quotient and remainder are zero, so is b
    coefficients_zero : (r : A) (b : ℕ → A) (n : ℕ) → ((k : ℕ) → k < n → value_at O r b (suc k) ≡ 𝟘) → (k : ℕ) → k < n → b k ≡ 𝟘
    unfolding value_at
    coefficients_zero r b n z k l = step k (before k l) (z k l)
      where
        before : (k : ℕ) → k < n → value_at O r b k ≡ 𝟘
        before zero l = refl
        before (suc k) l = z k (omega arith)

        step : (k : ℕ) → value_at O r b k ≡ 𝟘 → value_at O r b (suc k) ≡ 𝟘 → b k ≡ 𝟘
        step k v h = cc (v, h, zero-mul O K r, zero-add O K (b k))

    module _ {I : Type 0} (X : I → A) where
      applied_sum : (n : ℕ) (ps : List I) (b : ℕ → A) (e : I → A) → applied_to b n (power_sum O X e ps) ≡ sum O (λ i. e i ⊙ value_at O (X i) b n) ps
      unfolding applied_to power_sum value_at
      applied_sum zero ps b e = sym (ap (λ f. sum O f ps) (fun_ext (λ i. mul_comm O K (e i) 𝟘)) ∙ sum_mul O K ps 𝟘 e ∙ zero-mul O K _)
      applied_sum (suc n) ps b e =
          ap (λ x. x ⊕ b n ⊙ sum O e ps) (applied_sum n ps b (λ i. X i ⊙ e i))
          ∙ rw (← sum_mul O K, ← sum_add O K) (ap (λ f. sum O f ps) (fun_ext (λ i. simp (ring, K))))

      -- applied to power sums, a polynomial gives power sums of the errors times its values
      applied_power_sum : (j n : ℕ) (ps : List I) (b : ℕ → A) (e : I → A) →
          applied_to b n (λ k. power_sum O X e ps (j + k)) ≡ power_sum O X (λ i. e i ⊙ value_at O (X i) b n) ps j
      unfolding power_sum
      applied_power_sum zero n ps b e = simp N.zero-add (applied_sum n ps b e)
      applied_power_sum (suc j) n ps b e =
          simp N.suc-add (applied_power_sum j n ps b (λ i. X i ⊙ e i) ∙ ap (λ f. power_sum O X f ps j) (fun_ext (λ i. mul_assoc O K (X i) (e i) _)))

      module _ (in-X : (i : I) → In (X i)) where
        -- a polynomial that annihilates the first power sums of at most t errors has their locators for roots
        pub locates : (t : ℕ) (ps : List I) → length ps ≤ t → Apart X ps → (e : I → A) → ((i : I) → In (e i)) → All (λ i. ¬ (e i ≡ 𝟘)) ps →
            (n : ℕ) (b : ℕ → A) → ((k : ℕ) → In (b k)) → ((j : ℕ) → j < t → applied_to b n (λ k. power_sum O X e ps (j + k)) ≡ 𝟘) →
            All (λ i. value_at O (X i) b n ≡ 𝟘) ps
        locates t ps few d e ie ne n b ib h =
            all_zip (λ i q z. cancel O K (value_in O K (X i) b ib n) (ie i) q z) ps ne
            (vandermonde O K X in-X ps d _ (λ i. K.in_mul _ _) (λ j l. sym (applied_power_sum j n ps b e) ∙ h j (omega arith)))

        -- a polynomial of n coefficients that has n distinct roots is zero
        pub vanishes : (n : ℕ) (b : ℕ → A) → ((k : ℕ) → In (b k)) → (ps : List I) → n ≤ length ps → Apart X ps → All (λ i. value_at O (X i) b n ≡ 𝟘) ps →
            (k : ℕ) → k < n → b k ≡ 𝟘
        unfolding value_at
        vanishes zero b ib ps many d roots k l = absurd (N.not-suc-le-zero l)
        vanishes (suc n) b ib [] many d roots k l = absurd (N.not-suc-le-zero many)
        vanishes (suc n) b ib (i ∷ ps) many d roots k l = coefficients_zero (X i) b (suc n) (quotient_zero (vanishes n q iq ps (omega arith) d.1 others)) k l
          where
            q : ℕ → A
            q k = value_at O (X i) b (suc k)

            iq : (k : ℕ) → In (q k)
            iq k = value_in O K (X i) b ib (suc k)

            others : All (λ k. value_at O (X k) q n ≡ 𝟘) ps
            others =
                all_zip (λ k a z. sym (value_tail (X k) (value_at O (X i) b) refl n)
                ∙ quotient_root (X i) (X k) (in-X i) (in-X k) a b ib (suc n) roots.0 z) ps d.0 roots.1

            quotient_zero : ((k : ℕ) → k < n → q k ≡ 𝟘) → (k : ℕ) → k < suc n → q k ≡ 𝟘
            quotient_zero z k l = go (dec_lt k n)
              where
                go : Dec (k < n) → q k ≡ 𝟘
                go (yes h) = z k h
                go (no h) = let e : k ≡ n = omega arith in rw e roots.0
