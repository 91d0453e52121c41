-- Bounded-distance decoding ("mending") by a cost of changing a word: the code word that a word becomes cheaply enough. Where the cost is the number of
-- changed places, it is the code word within a radius ("reach").
use Rattle.std.specs.Prelude.{◌≡◌, Bool, true, false, ◌&&◌, cond, List, [], ◌∷◌, ℕ, zero, suc, ◌≤◌, ◌<◌, leb, length}
use Rattle.std.proofs.Math.Option.{Option, none, some}
use Rattle.fields.specs.Places.{apart}

-- whether there is an answer
abbrev pub is_some : {A : Type 0} → Option A → Bool
is_some none = false
is_some (some a) = true

-- the first answer of two, of f 0, .. f (q - 1), and of f at the words of n symbols below q
unfoldable pub or_else : {A : Type 0} → Option A → Option A → Option A
or_else none b = b
or_else (some a) b = some a

unfoldable pub first_at : {A : Type 0} → ℕ → (ℕ → Option A) → Option A
first_at zero f = none
first_at (suc q) f = or_else (first_at q f) (f q)

unfoldable pub first_word : {A : Type 0} → ℕ → ℕ → (List ℕ → Option A) → Option A
first_word q zero f = f []
first_word q (suc n) f = first_at q (λ s. first_word q n (λ c. f (s ∷ c)))

-- the code word c as long as w, of symbols below q, for which `cost w c` is at most t; none, if there is none. Never computed
unfoldable pub nearest_by : (List ℕ → List ℕ → ℕ) → (List ℕ → Bool) → ℕ → ℕ → List ℕ → Option (List ℕ)
nearest_by cost is_code q t w = first_word q (length w) (λ c. cond (is_code c && leb (cost w c) t) (some c) none)

-- what is proved of it for words of n symbols: what is found is a code word as long and cheap enough, such a code word is the one that is found, and
-- where none is found there is none
pub record DecodesBy (cost : List ℕ → List ℕ → ℕ) (is_code : List ℕ → Bool) (q t n : ℕ) : Type 0 where
  pub sound : (w c : List ℕ) → length w ≡ n → nearest_by cost is_code q t w ≡ some c → (length c ≡ n) × (is_code c ≡ true) × (cost w c ≤ t)
  pub complete : (w c : List ℕ) → length w ≡ n → length c ≡ n → is_code c ≡ true → cost w c ≤ t → nearest_by cost is_code q t w ≡ some c
  pub none_means_none : (w c : List ℕ) → length w ≡ n → nearest_by cost is_code q t w ≡ none → length c ≡ n → is_code c ≡ true → t < cost w c

-- the code word that differs from w in at most t places; and what is proved of it
abbrev pub nearest : (List ℕ → Bool) → ℕ → ℕ → List ℕ → Option (List ℕ)
nearest = nearest_by apart

abbrev pub Decodes : (List ℕ → Bool) → ℕ → ℕ → ℕ → Type 0
Decodes = DecodesBy apart

-- all answers of a list; none, if one is missing
unfoldable pub cons_to : {A : Type 0} → Option A → Option (List A) → Option (List A)
cons_to none rest = none
cons_to (some a) none = none
cons_to (some a) (some rest) = some (a ∷ rest)

unfoldable pub every_of : {A : Type 0} → List (Option A) → Option (List A)
every_of [] = some []
every_of (o ∷ os) = cons_to o (every_of os)
