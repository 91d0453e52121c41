-- Document 03's words agree with ours: its tests and distance, its registers and its values. Assumes nothing.
use mathlib.Core.Path.{◌≡◌, refl, sym, ap, ap₂, ◌∙◌}
use mathlib.Core.Bool.{Bool, true, false, not, ◌&&◌, and-true, and_assoc, and-eq-true_iff}
use mathlib.Core.List.{List, [], ◌∷◌, ◌++◌}
use Prim.Native.Nat.{ℕ, zero, suc, ◌+◌, ◌^◌, ◌≤◌, ◌<◌}
use native.Mathlib.Nat.{le_of_suc-le-suc, add_assoc, add_comm}
use native.Mathlib.Omega.{arith}
use borrow.Author.Tests.{eq-eqb, eqb-true}
use lib.Dec.{eqb, ltb}
use lib.ListN.{length, drop, length-append, length-drop}
use lib.Pow.{pow_mono}
use Rattle.fields.specs.Elements.{times}
use Rattle.fields.specs.Elements as E
use Rattle.fields.specs.Field.{Field}
use Rattle.fields.specs.Lists.{tabulate}
use Rattle.fields.specs.Places.{at, every, all_below, horner, value, sum_to, differs}
use Rattle.fields.specs.Places as Places
use Rattle.fields.proofs.Places.Counting.{apart_sum}
use Rattle.fields.proofs.Lists.{tabulate_is}
use Rattle.decoding.proofs.Algebra.Values.{value_lt}
use Rattle.document03.proofs.Fields.{xor, xor_agrees}
use Rattle.document03.proofs.Words.Statements.{when, sums, same, apart}

-- a test of all symbols, first symbol first
every_first : (n : ℕ) (f : ℕ → Bool) → every (suc n) f ≡ (f 0 && every n (λ i. f (suc i)))
unfolding every
every_first zero f = sym (and-true (f 0))
every_first (suc n) f = ap (λ (t : Bool). t && f (suc n)) (every_first n f) ∙ and_assoc (f 0) (every n (λ i. f (suc i))) (f (suc n))

pub all_below_lem : (q : ℕ) (all : List ℕ → Bool) → all [] ≡ true → ((s : ℕ) (ss : List ℕ) → all (s ∷ ss) ≡ (ltb s q && all ss)) → (w : List ℕ) → all w ≡ all_below q w
unfolding all_below every
all_below_lem q all none some [] = none
all_below_lem q all none some (s ∷ ss) =
    some s ss ∙ ap (λ (t : Bool). ltb s q && t) (all_below_lem q all none some ss) ∙ sym (every_first (length ss) (λ i. ltb (at (s ∷ ss) i) q))

-- equality of words
pub same_refl : (xs : List ℕ) → same xs xs ≡ true
same_refl [] = refl
same_refl (x ∷ xs) = rw (eq-eqb x x refl) (same_refl xs)

pub same_is : (xs ys : List ℕ) → same xs ys ≡ true → xs ≡ ys
same_is [] [] t = refl
same_is [] (y ∷ ys) t = let z : ◌≡◌ {A = ℕ} 0 1 = cc in absurd (omega arith)
same_is (x ∷ xs) [] t = let z : ◌≡◌ {A = ℕ} 0 1 = cc in absurd (omega arith)
same_is (x ∷ xs) (y ∷ ys) t = let a = (and-eq-true_iff (eqb x y) (same xs ys)).0 t in ap₂ ◌∷◌ (eqb-true x y a.0) (same_is xs ys a.1)

-- the distance, first symbol first
pub sum_first : (n : ℕ) (f : ℕ → ℕ) → sum_to (suc n) f ≡ f 0 + sum_to n (λ i. f (suc i))
unfolding sum_to
sum_first zero f = add_comm 0 (f 0)
sum_first (suc n) f = ap (λ (k : ℕ). k + f (suc n)) (sum_first n f) ∙ add_assoc (f 0) _ _

differs_agrees : (t : Bool) (x y : ℕ) → eqb x y ≡ t → when (not t) 1 ≡ differs x y
unfolding differs
differs_agrees true x y e = rw e
differs_agrees false x y e = rw e

apart_places : (xs ys : List ℕ) → length xs ≡ length ys → apart xs ys ≡ sum_to (length xs) (λ i. differs (at xs i) (at ys i))
unfolding sum_to
apart_places [] ys e = refl
apart_places (x ∷ xs) [] e = absurd (omega arith)
apart_places (x ∷ xs) (y ∷ ys) e =
    ap₂ ◌+◌ (differs_agrees (eqb x y) x y refl) (apart_places xs ys (omega arith)) ∙ sym (sum_first (length xs) (λ i. differs (at (x ∷ xs) i) (at (y ∷ ys) i)))

pub apart_agrees : (xs ys : List ℕ) → length xs ≡ length ys → apart xs ys ≡ Places.apart xs ys
apart_agrees xs ys e = apart_places xs ys e ∙ sym (apart_sum xs ys)

-- what takes in one symbol after another
module _ {S : Type 0} (f : S → ℕ → S) (run : S → List ℕ → S) (stop : (r : S) → run r [] ≡ r) (go : (r : S) (s : ℕ) (ss : List ℕ) → run r (s ∷ ss) ≡ run (f r s) ss) where
  pub runs : (state : ℕ → S) (ss : List ℕ) → ((i : ℕ) → i < length ss → f (state i) (at ss i) ≡ state (suc i)) → run (state 0) ss ≡ state (length ss)
  runs state [] h = stop (state 0)
  runs state (s ∷ ss) h = go (state 0) s ss ∙ ap (λ (r : S). run r ss) (h 0 (omega arith)) ∙ runs (λ i. state (suc i)) ss (λ i l. h (suc i) (omega arith))

-- sums of numbers below 2^m, and the value of a word in a field whose product is mul
pub sum_agrees : (m : ℕ) → m < 12 → (a b : ℕ) → a < 2 ^ m → b < 2 ^ m → xor a b ≡ E.xor a b
sum_agrees m small a b ha hb = let q : 2 ^ m ≤ 2048 = pow_mono (le_of_suc-le-suc small) in xor_agrees a b (omega arith) (omega arith)

module _ (m p : ℕ) (F : Field m p) (small : m < 12) (mul : ℕ → ℕ → ℕ) (mul-agrees : (a b : ℕ) → a < 2 ^ m → mul a b ≡ times m p a b) where
  pub value_agrees : (x : ℕ) (run : ℕ → List ℕ → ℕ) → ((v : ℕ) → run v [] ≡ v) → ((v s : ℕ) (ss : List ℕ) → run v (s ∷ ss) ≡ run (xor (mul v x) s) ss)
      → (w : List ℕ) → ((i : ℕ) → at w i < 2 ^ m) → run 0 w ≡ value m p x (at w) (length w)
  unfolding horner
  value_agrees x run stop go w h =
      runs (λ v s. xor (mul v x) s) run stop go (value m p x (at w)) w
      (λ i l. let v : value m p x (at w) i < 2 ^ m = value_lt m p F x (at w) h i in
      ap (λ (y : ℕ). xor y (at w i)) (mul-agrees _ x v) ∙ sum_agrees m small _ (at w i) (F.times_lt _ x v) (h i))

-- sums of lists of one length, and a register that moves up by one
sums_at : (xs ys : List ℕ) → length xs ≡ length ys → (i : ℕ) → at (sums xs ys) i ≡ xor (at xs i) (at ys i)
sums_at [] [] e i = refl
sums_at [] (y ∷ ys) e i = absurd (omega arith)
sums_at (x ∷ xs) [] e i = absurd (omega arith)
sums_at (x ∷ xs) (y ∷ ys) e zero = refl
sums_at (x ∷ xs) (y ∷ ys) e (suc i) = sums_at xs ys (omega arith) i

sums_length : (xs ys : List ℕ) → length xs ≡ length ys → length (sums xs ys) ≡ length ys
sums_length [] ys e = refl
sums_length (x ∷ xs) [] e = e
sums_length (x ∷ xs) (y ∷ ys) e = ap suc (sums_length xs ys (omega arith))

pub padded_at : (xs : List ℕ) (i : ℕ) → at (xs ++ (0 ∷ [])) i ≡ at xs i
padded_at [] zero = refl
padded_at [] (suc i) = refl
padded_at (x ∷ xs) zero = refl
padded_at (x ∷ xs) (suc i) = padded_at xs i

pub dropped_at : (xs : List ℕ) (i : ℕ) → at (drop 1 xs) i ≡ at xs (suc i)
dropped_at [] i = refl
dropped_at (x ∷ xs) i = refl

pub register_is : (n : ℕ) (f : ℕ → ℕ) (reg ys : List ℕ) → length reg ≡ suc n → length ys ≡ suc n → ((i : ℕ) → i < suc n → xor (at reg (suc i)) (at ys i) ≡ f i)
    → sums (drop 1 reg ++ (0 ∷ [])) ys ≡ tabulate (suc n) f
register_is n f reg ys hr hy h =
    let xs = drop 1 reg ++ (0 ∷ []) in
    let e : length xs ≡ length ys = simp (length-append, length-drop) (omega arith) in
    tabulate_is (suc n) f (sums xs ys) 0 (sums_length xs ys e ∙ hy) (λ i l. sums_at xs ys e i ∙ ap (λ (x : ℕ). xor x (at ys i)) (padded_at (drop 1 reg) i ∙ dropped_at reg i) ∙ h i l)
