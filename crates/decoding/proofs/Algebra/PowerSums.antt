-- Power sums over a list of positions; the value of a word at a power of one element is a power sum of its symbols. Assumes nothing.
use mathlib.Core.Path.{◌≡◌, refl, ap, ap₂, sym, ◌∙◌, fun_ext}
use mathlib.Core.List.{List, [], ◌∷◌}
use Prim.Native.Nat.{ℕ, zero, suc, ◌-◌, ◌<◌}
use native.Mathlib.Decide.{ℕ_discrete}
use native.Mathlib.Nat.{le_refl, not-suc-le-zero}
use native.Mathlib.Omega.{arith}
use Rattle.decoding.proofs.Algebra.Field.{Ops, Laws, All, all_map, upto, upto_lt, add_comm, add-mul, add_self, add_same, add-zero, zero-add, mul_comm, mul_assoc, mul_left, mul-add, mul-zero, ring}

module _ {A : Type 0} (O : Ops A) where
  open O use {◌⊕◌, ◌⊙◌, 𝟘, 𝟙}

  infixl 65 ◌⊕◌
  infixl 70 ◌⊙◌
  module _ {I : Type 0} where
    -- the sum of e over the positions, and the j-th power sum: of e times the j-th powers of the locators X
    unfoldable pub sum : (I → A) → List I → A
    sum e [] = 𝟘
    sum e (i ∷ ps) = e i ⊕ sum e ps

    unfoldable pub power_sum : (I → A) → (I → A) → List I → ℕ → A
    power_sum X e ps zero = sum e ps
    power_sum X e ps (suc j) = power_sum X (λ i. X i ⊙ e i) ps j

  -- the value at x of the word b of n symbols, by Horner's rule: the first symbol has the highest power
  unfoldable pub value_at : A → (ℕ → A) → ℕ → A
  value_at x b zero = 𝟘
  value_at x b (suc n) = value_at x b n ⊙ x ⊕ b n

  module _ {In : A → Type 0} (K : Laws O In) where
    module _ {I : Type 0} where
      pub sum_add : (ps : List I) (f g : I → A) → sum (λ i. f i ⊕ g i) ps ≡ sum f ps ⊕ sum g ps
      unfolding sum
      sum_add [] f g = simp (ring, K)
      sum_add (i ∷ ps) f g = simp (sum, sum_add ps f g, ring, K)

      pub sum_mul : (ps : List I) (c : A) (f : I → A) → sum (λ i. c ⊙ f i) ps ≡ c ⊙ sum f ps
      unfolding sum
      sum_mul [] c f = simp (ring, K)
      sum_mul (i ∷ ps) c f = rw (sum, sum_mul ps c f) (simp (ring, K))

      pub sum_zero : (ps : List I) (e : I → A) → All (λ i. e i ≡ 𝟘) ps → sum e ps ≡ 𝟘
      unfolding sum
      sum_zero [] e h = refl
      sum_zero (i ∷ ps) e h = rw (sum, h.0, zero-add O K) (sum_zero ps e h.1)

      pub power_sum_add : (X : I → A) (j : ℕ) (ps : List I) (f g : I → A) →
          power_sum X (λ i. f i ⊕ g i) ps j ≡ power_sum X f ps j ⊕ power_sum X g ps j
      unfolding power_sum
      power_sum_add X zero ps f g = sum_add ps f g
      power_sum_add X (suc j) ps f g = simp (mul-add O K) (power_sum_add X j ps _ _)

      pub power_sum_mul : (X : I → A) (j : ℕ) (ps : List I) (c : A) (f : I → A) → power_sum X (λ i. c ⊙ f i) ps j ≡ c ⊙ power_sum X f ps j
      unfolding power_sum
      power_sum_mul X zero ps c f = sum_mul ps c f
      power_sum_mul X (suc j) ps c f = rw (fun_ext (λ i. mul_left O K (X i) c (f i))) (power_sum_mul X j ps c _)

      -- x is filtered out: the next power sum plus x times the power sum is that of e times the sum of locator and x
      pub power_sum_filter : (X : I → A) (j : ℕ) (ps : List I) (x : A) (e : I → A) →
          power_sum X (λ i. (X i ⊕ x) ⊙ e i) ps j ≡ power_sum X e ps (suc j) ⊕ x ⊙ power_sum X e ps j
      unfolding power_sum
      power_sum_filter X j ps x e =
          ap (λ f. power_sum X f ps j) (fun_ext (λ i. add-mul O K (X i) x (e i))) ∙ power_sum_add X j ps _ _
          ∙ ap (λ s. power_sum X e ps (suc j) ⊕ s) (power_sum_mul X j ps x e)

      -- a position where e is zero
      pub power_sum_skip : (X : I → A) (j : ℕ) (i : I) (ps : List I) (e : I → A) → e i ≡ 𝟘 → power_sum X e (i ∷ ps) j ≡ power_sum X e ps j
      unfolding power_sum sum
      power_sum_skip X zero i ps e h = rw (power_sum, sum, h) (zero-add O K _)
      power_sum_skip X (suc j) i ps e h = power_sum_skip X j i ps _ (rw h (mul-zero O K _))

    -- a sum with one term, and a sum with one term more
    pub sum_at_lem : (f : ℕ → A) (k n : ℕ) → k < n → ((i : ℕ) → ¬ (i ≡ k) → f i ≡ 𝟘) → sum f (upto n) ≡ f k
    unfolding sum upto
    sum_at_lem f k zero h z = absurd (not-suc-le-zero h)
    sum_at_lem f k (suc n) h z = go (ℕ_discrete n k) (sum_at_lem f k n)
      where
        go : Dec (n ≡ k) → (k < n → ((i : ℕ) → ¬ (i ≡ k) → f i ≡ 𝟘) → sum f (upto n) ≡ f k) → f n ⊕ sum f (upto n) ≡ f k
        go (yes e) r =
            ap (λ x. f n ⊕ x) (sum_zero (upto n) f (all_map (λ i l. z i (λ q. omega arith)) (upto n) (upto_lt n))) ∙ add-zero O K (f n) ∙ ap f e
        go (no e) r = ap (λ x. x ⊕ sum f (upto n)) (z n e) ∙ zero-add O K _ ∙ r (omega arith) z

    pub sum_put : (f g : ℕ → A) (k n : ℕ) → k < n → f k ≡ 𝟘 → ((i : ℕ) → ¬ (i ≡ k) → g i ≡ f i) → sum g (upto n) ≡ sum f (upto n) ⊕ g k
    sum_put f g k n h z same =
        let both : sum f (upto n) ⊕ sum g (upto n) ≡ g k =
        sym (sum_add (upto n) f g) ∙ sum_at_lem (λ i. f i ⊕ g i) k n h (λ i q. rw (same i q) (add_self O K (f i))) ∙ ap (λ x. x ⊕ g k) z ∙ zero-add O K (g k) in
        rw (← both) (sym (add_same O K _ _))

    pub value_in : (x : A) (b : ℕ → A) → ((i : ℕ) → In (b i)) → (n : ℕ) → In (value_at x b n)
    unfolding value_at
    value_in x b h zero = K.in_zero
    value_in x b h (suc n) = K.in_add _ _ (K.in_mul _ _) (h n)

    pub value_same : (x : A) (b c : ℕ → A) (n : ℕ) → ((i : ℕ) → i < n → b i ≡ c i) → value_at x b n ≡ value_at x c n
    unfolding value_at
    value_same x b c zero h = refl
    value_same x b c (suc n) h = ap₂ (λ u v. u ⊙ x ⊕ v) (value_same x b c n (λ i l. h i (omega arith))) (h n (le_refl (suc n)))

    value_mul : (x c : A) (b : ℕ → A) (n : ℕ) → value_at x (λ i. c ⊙ b i) n ≡ c ⊙ value_at x b n
    unfolding value_at
    value_mul x c b zero = sym (mul-zero O K c)
    value_mul x c b (suc n) = rw (value_at, value_mul x c b n) (simp (ring, K))

    value_one : (b : ℕ → A) → ((i : ℕ) → In (b i)) → (n : ℕ) → value_at 𝟙 b n ≡ sum b (upto n)
    unfolding value_at sum upto
    value_one b h zero = refl
    value_one b h (suc n) =
        ap (λ v. v ⊕ b n) (mul_comm O K _ 𝟙 ∙ K.one-mul _ (value_in 𝟙 b h n) ∙ value_one b h n) ∙ add_comm O K _ (b n)

    -- X is the sequence of the powers of a
    module _ (a : A) (X : ℕ → A) (first : X 0 ≡ 𝟙) (next : (i : ℕ) → X (suc i) ≡ a ⊙ X i) where
      pub in_powers : (i : ℕ) → In (X i)
      in_powers zero = rw first K.in_one
      in_powers (suc i) = rw next (K.in_mul _ _)

      -- a factor a in the point goes into the symbols
      value_next : (x : A) (b : ℕ → A) → ((i : ℕ) → In (b i)) → (n : ℕ) → value_at (a ⊙ x) b n ≡ value_at x (λ i. X (n - suc i) ⊙ b i) n
      unfolding value_at
      value_next x b h zero = refl
      value_next x b h (suc n) = rw (value_at, value_next x b h n, scaled, last) (simp (ring, K))
        where
          moved : (i : ℕ) → i < n → X (suc n - suc i) ⊙ b i ≡ a ⊙ (X (n - suc i) ⊙ b i)
          moved i l = let e : suc n - suc i ≡ suc (n - suc i) = omega arith in rw (e, next) (mul_assoc O K a _ (b i))

          scaled : value_at x (λ i. X (suc n - suc i) ⊙ b i) n ≡ a ⊙ value_at x (λ i. X (n - suc i) ⊙ b i) n
          scaled = value_same x _ _ n moved ∙ value_mul x a _ n

          last : X (suc n - suc n) ⊙ b n ≡ b n
          last = let e : suc n - suc n ≡ 0 = omega arith in rw (e, first) (K.one-mul (b n) (h n))

      -- position i of a word of n symbols has the locator a^(n-1-i)
      pub horner_sums : (n : ℕ) (b : ℕ → A) → ((i : ℕ) → In (b i)) → (j : ℕ) → value_at (X j) b n ≡ power_sum (λ i. X (n - suc i)) b (upto n) j
      unfolding power_sum
      horner_sums n b h zero = rw first (value_one b h n)
      horner_sums n b h (suc j) = rw next (value_next (X j) b h n ∙ horner_sums n (λ i. X (n - suc i) ⊙ b i) (λ i. K.in_mul _ _) j)
