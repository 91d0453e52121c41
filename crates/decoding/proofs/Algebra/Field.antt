-- Fields of characteristic two, abstractly, and lists of positions. Assumes nothing.
use mathlib.Core.Path.{◌≡◌, ◌∙◌, sym, subst}
use mathlib.Core.List.{List, [], ◌∷◌}
use Prim.Native.Nat.{ℕ, zero, suc, ◌<◌}
use native.Mathlib.Decide.{ℕ_discrete}
use native.Mathlib.Nat.{le_refl, not-suc-le-zero}
use native.Mathlib.Omega.{arith}

module _ {I : Type 0} where
  -- P holds at each position of the list
  abbrev pub All : (I → Type 0) → List I → Type 0
  All P [] = Unit {0}
  All P (i ∷ ps) = P i × All P ps

  pub all_map : {P Q : I → Type 0} → ((i : I) → P i → Q i) → (ps : List I) → All P ps → All Q ps
  all_map f [] a = tt
  all_map f (i ∷ ps) a = (f i a.0, all_map f ps a.1)

  pub all_zip : {P Q R : I → Type 0} → ((i : I) → P i → Q i → R i) → (ps : List I) → All P ps → All Q ps → All R ps
  all_zip f [] a b = tt
  all_zip f (i ∷ ps) a b = (f i a.0 b.0, all_zip f ps a.1 b.1)

  -- the locators X of any two positions of the list are distinct
  abbrev pub Apart : {A : Type 0} → (I → A) → List I → Type 0
  Apart X [] = Unit {0}
  Apart X (i ∷ ps) = All (λ k. ¬ (X k ≡ X i)) ps × Apart X ps

-- the numbers below n, the highest first
unfoldable pub upto : ℕ → List ℕ
upto zero = []
upto (suc n) = n ∷ upto n

pub upto_lt : (n : ℕ) → All (λ k. k < n) (upto n)
unfolding upto
upto_lt zero = tt
upto_lt (suc n) = (le_refl (suc n), all_map (λ k h. omega arith) (upto n) (upto_lt n))

pub all_upto : (P : ℕ → Type 0) (n : ℕ) → All P (upto n) → (i : ℕ) → i < n → P i
unfolding upto
all_upto P zero h i l = absurd (not-suc-le-zero l)
all_upto P (suc n) h i l = go (ℕ_discrete i n) (all_upto P n h.1 i)
  where
    go : Dec (i ≡ n) → (i < n → P i) → P i
    go (yes e) r = subst P (sym e) h.0
    go (no e) r = r (omega arith)

pub upto_apart : {A : Type 0} (X : ℕ → A) (n : ℕ) → ((i k : ℕ) → i < k → k < n → ¬ (X i ≡ X k)) → Apart X (upto n)
unfolding upto
upto_apart X zero d = tt
upto_apart X (suc n) d = (all_map (λ i l. d i n l (le_refl (suc n))) (upto n) (upto_lt n), upto_apart X n (λ i k l h. d i k l (omega arith)))

pub record Ops (A : Type 0) : Type 0 where
  pub ◌⊕◌ : A → A → A
  pub ◌⊙◌ : A → A → A
  pub 𝟘 : A
  pub 𝟙 : A
  pub inv : A → A

module _ {A : Type 0} (O : Ops A) where
  open O use {◌⊕◌, ◌⊙◌, 𝟘, 𝟙, inv}

  infixl 65 ◌⊕◌
  infixl 70 ◌⊙◌
  -- the ring laws hold of every value; those that cancel ask for values in the field
  pub record Laws (In : A → Type 0) : Type 0 where
    pub add_comm : (a b : A) → a ⊕ b ≡ b ⊕ a
    pub add_assoc : (a b c : A) → a ⊕ b ⊕ c ≡ a ⊕ (b ⊕ c)
    pub add_self : (a : A) → a ⊕ a ≡ 𝟘
    pub zero-add : (a : A) → 𝟘 ⊕ a ≡ a
    pub mul_comm : (a b : A) → a ⊙ b ≡ b ⊙ a
    pub mul_assoc : (a b c : A) → a ⊙ b ⊙ c ≡ a ⊙ (b ⊙ c)
    pub mul-add : (a b c : A) → a ⊙ (b ⊕ c) ≡ a ⊙ b ⊕ a ⊙ c
    pub mul_unit : (a b : A) → a ⊙ (𝟙 ⊙ b) ≡ a ⊙ b
    pub in_zero : In 𝟘
    pub in_one : In 𝟙
    pub in_add : (a b : A) → In a → In b → In (a ⊕ b)
    pub in_mul : (a b : A) → In (a ⊙ b)
    pub one-mul : (a : A) → In a → 𝟙 ⊙ a ≡ a
    pub mul_inv : (a : A) → In a → ¬ (a ≡ 𝟘) → a ⊙ inv a ≡ 𝟙
    pub one_not_zero : ¬ (𝟙 ≡ 𝟘)

  module _ {In : A → Type 0} (K : Laws In) where
    -- the laws under names that a ruleset takes
    pub add_comm : (a b : A) → a ⊕ b ≡ b ⊕ a
    add_comm = K.add_comm

    pub add_assoc : (a b c : A) → a ⊕ b ⊕ c ≡ a ⊕ (b ⊕ c)
    add_assoc = K.add_assoc

    pub add_self : (a : A) → a ⊕ a ≡ 𝟘
    add_self = K.add_self

    pub zero-add : (a : A) → 𝟘 ⊕ a ≡ a
    zero-add = K.zero-add

    pub mul_comm : (a b : A) → a ⊙ b ≡ b ⊙ a
    mul_comm = K.mul_comm

    pub mul_assoc : (a b c : A) → a ⊙ b ⊙ c ≡ a ⊙ (b ⊙ c)
    mul_assoc = K.mul_assoc

    pub mul-add : (a b c : A) → a ⊙ (b ⊕ c) ≡ a ⊙ b ⊕ a ⊙ c
    mul-add = K.mul-add

    pub add-zero : (a : A) → a ⊕ 𝟘 ≡ a
    add-zero a = add_comm a 𝟘 ∙ zero-add a

    pub add_left : (a b c : A) → a ⊕ (b ⊕ c) ≡ b ⊕ (a ⊕ c)
    add_left a b c = cc (add_assoc a b c, add_assoc b a c, add_comm a b)

    pub add_same : (a b : A) → a ⊕ (a ⊕ b) ≡ b
    add_same a b = cc (add_assoc a a b, add_self a, zero-add b)

    pub mul_left : (a b c : A) → a ⊙ (b ⊙ c) ≡ b ⊙ (a ⊙ c)
    mul_left a b c = cc (mul_assoc a b c, mul_assoc b a c, mul_comm a b)

    pub add-mul : (a b c : A) → (a ⊕ b) ⊙ c ≡ a ⊙ c ⊕ b ⊙ c
    add-mul a b c = cc (mul_comm (a ⊕ b) c, mul-add c a b, mul_comm a c, mul_comm b c)

    pub mul-zero : (a : A) → a ⊙ 𝟘 ≡ 𝟘
    mul-zero a = cc (mul-add a 𝟘 𝟘, zero-add 𝟘, add_self (a ⊙ 𝟘))

    pub zero-mul : (a : A) → 𝟘 ⊙ a ≡ 𝟘
    zero-mul a = cc (mul_comm 𝟘 a, mul-zero a)

    pub ruleset ring = (add_comm, add_assoc, add_left, add_self, add_same, zero-add, add-zero, mul_comm, mul_assoc, mul_left, mul-add, add-mul, mul-zero, zero-mul)

    pub eq_of_add : {a b : A} → a ⊕ b ≡ 𝟘 → a ≡ b
    eq_of_add {a} {b} h = cc (add_same a b, add-zero a)

    pub undo : {a b : A} → In a → In b → ¬ (b ≡ 𝟘) → inv b ⊙ (b ⊙ a) ≡ a
    undo {a} {b} ia ib n = cc (K.one-mul a ia, K.mul_inv b ib n, mul_comm b (inv b), mul_assoc (inv b) b a)

    pub cancel : {a b : A} → In a → In b → ¬ (b ≡ 𝟘) → b ⊙ a ≡ 𝟘 → a ≡ 𝟘
    cancel {a} {b} ia ib n h = cc (undo ia ib n, h, mul-zero (inv b))
