-- All answers of a list, or none. Assumes nothing.
use mathlib.Core.Path.{◌≡◌, refl, sym, ap, ap₂, subst}
use mathlib.Core.List.{List, [], ◌∷◌}
use mathlib.Core.Option.{Option, none, some}
use Prim.Native.Nat.{ℕ, zero, suc, ◌<◌, suc-le-suc}
use native.Mathlib.Nat.{le_of_suc-le-suc, not-suc-le-zero, zero-lt-suc}
use native.Mathlib.Omega.{arith}
use lib.ListN.{length, get_or}
use Rattle.fields.specs.Lists.{tabulate}
use Rattle.words.specs.Nearest.{cons_to, every_of}

module _ {A : Type 0} where
  -- an answer is not none, and two that are the same have the same value
  pub some_not_none : (a : A) → some a ≡ none → ⊥
  some_not_none a e = let z : ◌≡◌ {A = ℕ} 0 1 = cc in omega arith

  pub some_same : (a b : A) → some a ≡ some b → a ≡ b
  some_same a b e = cc

  -- all are there
  pub every_some : (n : ℕ) (f : ℕ → Option A) (g : ℕ → A) → ((i : ℕ) → i < n → f i ≡ some (g i)) → every_of (tabulate n f) ≡ some (tabulate n g)
  unfolding tabulate every_of cons_to
  every_some zero f g e = refl
  every_some (suc n) f g e = ap₂ {C = Option (List A)} cons_to (e zero (zero-lt-suc n)) (every_some n (λ i. f (suc i)) (λ i. g (suc i)) (λ i h. e (suc i) (suc-le-suc h)))

  cons_to_none : (o : Option A) → cons_to o none ≡ none
  unfolding cons_to
  cons_to_none none = refl
  cons_to_none (some a) = refl

  -- one answer that is missing leaves none; and where there is none, one is missing
  pub every_missing : (n : ℕ) (f : ℕ → Option A) (i : ℕ) → i < n → f i ≡ none → every_of (tabulate n f) ≡ none
  unfolding tabulate every_of cons_to
  every_missing zero f i h e = absurd (not-suc-le-zero h)
  every_missing (suc n) f zero h e = rw e
  every_missing (suc n) f (suc i) h e = rw (every_missing n (λ i. f (suc i)) i (le_of_suc-le-suc h) e) (cons_to_none (f zero))

  pub every_none : (n : ℕ) (f : ℕ → Option A) → every_of (tabulate n f) ≡ none → (i : ℕ) × (i < n) × (f i ≡ none)
  unfolding tabulate every_of cons_to
  every_none zero f e = let z : ◌≡◌ {A = ℕ} 0 1 = cc in absurd (omega arith)
  every_none (suc n) f e = go (f zero) (every_of (tabulate n (λ i. f (suc i)))) refl refl (every_none n (λ i. f (suc i))) e
    where
      go : (o : Option A) (r : Option (List A)) → f zero ≡ o → every_of (tabulate n (λ i. f (suc i))) ≡ r
          → (every_of (tabulate n (λ i. f (suc i))) ≡ none → (i : ℕ) × (i < n) × (f (suc i) ≡ none)) → cons_to o r ≡ none → (i : ℕ) × (i < suc n) × (f i ≡ none)
      go none r a b ih e = (0, zero-lt-suc n, a)
      go (some x) none a b ih e = let t = ih b in (suc t.0, suc-le-suc t.1, t.2)
      go (some x) (some r) a b ih e = (0, zero-lt-suc n, cc)

  cons_all : (n : ℕ) (f : ℕ → Option A) (a d : A) (r : List A) → f zero ≡ some a → ((i : ℕ) → i < n → f (suc i) ≡ some (get_or r i d))
      → (i : ℕ) → i < suc n → f i ≡ some (get_or (a ∷ r) i d)
  cons_all n f a d r e h zero l = e
  cons_all n f a d r e h (suc i) l = h i (le_of_suc-le-suc l)

  pub every_all : (n : ℕ) (f : ℕ → Option A) (xs : List A) (d : A) → every_of (tabulate n f) ≡ some xs → (length xs ≡ n) × ((i : ℕ) → i < n → f i ≡ some (get_or xs i d))
  unfolding tabulate every_of cons_to
  every_all zero f xs d e = let q : [] ≡ xs = cc in (ap length (sym q), λ i h. absurd (not-suc-le-zero h))
  every_all (suc n) f xs d e = go (f zero) (every_of (tabulate n (λ i. f (suc i)))) refl refl (λ r. every_all n (λ i. f (suc i)) r d) e
    where
      go : (o : Option A) (r : Option (List A)) → f zero ≡ o → every_of (tabulate n (λ i. f (suc i))) ≡ r
          → ((r : List A) → every_of (tabulate n (λ i. f (suc i))) ≡ some r → (length r ≡ n) × ((i : ℕ) → i < n → f (suc i) ≡ some (get_or r i d)))
          → cons_to o r ≡ some xs → (length xs ≡ suc n) × ((i : ℕ) → i < suc n → f i ≡ some (get_or xs i d))
      go none r a b ih e = let z : ◌≡◌ {A = ℕ} 0 1 = cc in absurd (omega arith)
      go (some x) none a b ih e = let z : ◌≡◌ {A = ℕ} 0 1 = cc in absurd (omega arith)
      go (some x) (some r) a b ih e =
          let q : x ∷ r ≡ xs = cc in
          let t = ih r b in
          subst (λ (l : List A). (length l ≡ suc n) × ((i : ℕ) → i < suc n → f i ≡ some (get_or l i d))) q (ap suc t.0, cons_all n f x d r a t.1)
