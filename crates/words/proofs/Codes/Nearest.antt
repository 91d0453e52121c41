-- Bounded-distance decoding by a cost: what is found is a code word that is cheap enough, and where two such are the same it is the only one. The code word within
-- a radius is an instance, for code words that lie far apart. Assumes nothing.
use mathlib.Core.Path.{◌≡◌, refl, sym, ap, ◌∙◌, subst}
use mathlib.Core.Bool.{Bool, true, false, ◌&&◌, cond}
use mathlib.Core.List.{List, [], ◌∷◌}
use mathlib.Core.Option.{Option, none, some}
use Prim.Native.Nat.{ℕ, zero, suc, ◌+◌, ◌≤◌, ◌<◌}
use native.Mathlib.Decide.{ℕ_discrete}
use native.Mathlib.Nat.{not-suc-le-zero}
use native.Mathlib.Omega.{arith}
use borrow.Author.Tests.{leb-true, leb-false}
use lib.Dec.{leb}
use lib.ListN.{length}
use Rattle.fields.specs.Places.{at, all_below, apart}
use Rattle.fields.proofs.Places.Tests.{below_lt}
use Rattle.fields.proofs.Places.Counting.{apart_two}
use Rattle.words.specs.Nearest.{or_else, first_at, first_word, nearest_by, DecodesBy, nearest, Decodes}

-- ---- the search through all words

module _ {A : Type 0} where
  or_some : (a b : Option A) (x : A) → or_else a b ≡ some x → (P : Type 0) → (a ≡ some x → P) → (b ≡ some x → P) → P
  unfolding or_else
  or_some none b x e P f g = g e
  or_some (some a) b x e P f g = f e

  or_none : (a b : Option A) → or_else a b ≡ none → (a ≡ none) × (b ≡ none)
  unfolding or_else
  or_none none b e = (refl, e)
  or_none (some a) b e = (e, cc)

  at_some : (q : ℕ) (f : ℕ → Option A) (x : A) → first_at q f ≡ some x → (s : ℕ) × (f s ≡ some x)
  unfolding first_at
  at_some zero f x e = (0, cc)
  at_some (suc q) f x e = or_some (first_at q f) (f q) x e _ (λ h. at_some q f x h) (λ h. (q, h))

  at_none : (q : ℕ) (f : ℕ → Option A) → first_at q f ≡ none → (s : ℕ) → s < q → f s ≡ none
  unfolding first_at
  at_none zero f e s h = absurd (not-suc-le-zero h)
  at_none (suc q) f e s h = go (or_none (first_at q f) (f q) e) (at_none q f) (ℕ_discrete s q)
    where
      go : (first_at q f ≡ none) × (f q ≡ none) → (first_at q f ≡ none → (s : ℕ) → s < q → f s ≡ none) → Dec (s ≡ q) → f s ≡ none
      go p ih (yes i) = rw i p.1
      go p ih (no i) = ih p.0 s (omega arith)

  word_some : (q n : ℕ) (f : List ℕ → Option A) (x : A) → first_word q n f ≡ some x → (c : List ℕ) × (length c ≡ n) × (f c ≡ some x)
  unfolding first_word
  word_some q zero f x e = ([], refl, e)
  word_some q (suc n) f x e =
      let s = at_some q (λ s. first_word q n (λ c. f (s ∷ c))) x e in
      let r = word_some q n (λ c. f (s.0 ∷ c)) x s.1 in
      (s.0 ∷ r.0, ap suc r.1, r.2)

  word_none : (q : ℕ) (c : List ℕ) (f : List ℕ → Option A) → first_word q (length c) f ≡ none → ((i : ℕ) → i < length c → at c i < q) → f c ≡ none
  unfolding first_word
  word_none q [] f e h = e
  word_none q (s ∷ c) f e h =
      word_none q c (λ c. f (s ∷ c)) (at_none q (λ s. first_word q (length c) (λ c. f (s ∷ c))) e s (h 0 (omega arith))) (λ i l. h (suc i) (omega arith))

-- ---- code words of symbols below q, and a cost of at most t

module _ (cost : List ℕ → List ℕ → ℕ) (is_code : List ℕ → Bool) (q t : ℕ) where
  -- c is a code word as long as w, and cheap enough
  pub record Cheap (w c : List ℕ) : Type 0 where
    pub as_long : length c ≡ length w
    pub code : is_code c ≡ true
    pub within : cost w c ≤ t

  by_some : (w c : List ℕ) → nearest_by cost is_code q t w ≡ some c → Cheap w c
  unfolding nearest_by
  by_some w c e =
      let r = word_some q (length w) (λ c. cond (is_code c && leb (cost w c) t) (some c) none) c e in
      go r.0 r.1 (is_code r.0) (leb (cost w r.0) t) refl refl r.2
    where
      go : (d : List ℕ) → length d ≡ length w → (a b : Bool) → is_code d ≡ a → leb (cost w d) t ≡ b → cond (a && b) (some d) none ≡ some c → Cheap w c
      go d l true true i b e =
          let k : d ≡ c = cc in
          subst (λ (x : List ℕ). Cheap w x) k (record { as_long = l; code = i; within = leb-true (cost w d) t b })
      go d l true false i b e = let z : ◌≡◌ {A = ℕ} 0 1 = cc in absurd (omega arith)
      go d l false b i b' e = let z : ◌≡◌ {A = ℕ} 0 1 = cc in absurd (omega arith)

  by_none : (w c : List ℕ) → nearest_by cost is_code q t w ≡ none → length c ≡ length w → all_below q c ≡ true → is_code c ≡ true → t < cost w c
  unfolding nearest_by
  by_none w c e l b i =
      go (leb (cost w c) t) refl
      (rw i at (word_none q c (λ c. cond (is_code c && leb (cost w c) t) (some c) none) (rw l e) (below_lt q c b)))
    where
      go : (x : Bool) → leb (cost w c) t ≡ x → cond (leb (cost w c) t) (some c) none ≡ none → t < cost w c
      go true x h = let z : ◌≡◌ {A = ℕ} 0 1 = cc in omega arith
      go false x h = leb-false (cost w c) t x

  -- where every code word costs more than t, none is found
  pub by_lost : (w : List ℕ) → ((c : List ℕ) → is_code c ≡ true → length c ≡ length w → t < cost w c) → nearest_by cost is_code q t w ≡ none
  by_lost w h = go (nearest_by cost is_code q t w) refl
    where
      go : (o : Option (List ℕ)) → nearest_by cost is_code q t w ≡ o → o ≡ none
      go none e = refl
      go (some d) e = let m = by_some w d e in absurd (omega (arith, h d m.code m.as_long, m.within))

  -- code words have symbols below q, and two that a word of length n becomes cheaply enough are the same
  module _ (n : ℕ) (below : (c : List ℕ) → is_code c ≡ true → all_below q c ≡ true)
      (only : (w c d : List ℕ) → length w ≡ n → Cheap w c → Cheap w d → c ≡ d) where
    -- the code word that is cheap enough is the one that is found
    by_is : (w c : List ℕ) → length w ≡ n → Cheap w c → nearest_by cost is_code q t w ≡ some c
    by_is w c l m = go (nearest_by cost is_code q t w) refl
      where
        go : (o : Option (List ℕ)) → nearest_by cost is_code q t w ≡ o → o ≡ some c
        go none e = absurd (omega (arith, by_none w c e m.as_long (below c m.code) m.code, m.within))
        go (some d) e = ap some (only w d c l (by_some w d e) m)

    pub decodes_by : DecodesBy cost is_code q t n
    decodes_by =
        record {
          sound = λ w c l e. let k = by_some w c e in (k.as_long ∙ l, k.code, k.within);
          complete = λ w c l m i a. by_is w c l (record { as_long = m ∙ sym l; code = i; within = a });
          none_means_none = λ w c l e m i. by_none w c e (m ∙ sym l) (below c i) i;
        }

-- ---- the radius t: the cost is the distance

module _ (is_code : List ℕ → Bool) (q t : ℕ) where
  -- the first code word among all words that differs in at most t places
  pub nearest_first : (w : List ℕ) → nearest is_code q t w ≡ first_word q (length w) (λ c. cond (is_code c && leb (apart w c) t) (some c) none)
  unfolding nearest_by
  nearest_first w = refl

  pub nearest_lost : (w : List ℕ) → ((c : List ℕ) → is_code c ≡ true → length c ≡ length w → t < apart w c) → nearest is_code q t w ≡ none
  nearest_lost = by_lost apart is_code q t

  -- code words of length n that differ in at most t + t places are the same
  pub decodes : (n : ℕ) → ((c : List ℕ) → is_code c ≡ true → all_below q c ≡ true) →
      ((c d : List ℕ) → is_code c ≡ true → is_code d ≡ true → length c ≡ n → length d ≡ n → apart c d ≤ t + t → c ≡ d) → Decodes is_code q t n
  decodes n below far =
      decodes_by apart is_code q t n below
      (λ w c d l k m. far c d k.code m.code (k.as_long ∙ l) (m.as_long ∙ l) (omega (arith, apart_two w c d k.as_long, k.within, m.within)))
