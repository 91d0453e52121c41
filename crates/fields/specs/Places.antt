-- Words place by place: symbols, the value of a word at an element, and the distance of two words.
use Rattle.std.specs.Prelude.{Bool, true, ◌&&◌, cond, List, ℕ, zero, suc, ◌+◌, ◌-◌, eqb, ltb, length, get_or}
use Rattle.fields.specs.Elements.{xor, times}

-- the symbol at place i of a word; 0 past its end
abbrev pub at : List ℕ → ℕ → ℕ
at w i = get_or w i 0

-- the test f holds of 0, 1, .. n - 1
unfoldable pub every : ℕ → (ℕ → Bool) → Bool
every zero f = true
every (suc n) f = every n f && f n

-- each symbol of a word is below q
unfoldable pub all_below : ℕ → List ℕ → Bool
all_below q w = every (length w) (λ i. ltb (at w i) q)

-- Horner's rule: the polynomial with the coefficients b 0, b 1, .. b (n - 1), highest power first, at the point that f multiplies by
unfoldable pub horner : (ℕ → ℕ) → (ℕ → ℕ) → ℕ → ℕ
horner f b zero = 0
horner f b (suc n) = xor (f (horner f b n)) (b n)

-- its value at the element x of the field of degree m and polynomial p
abbrev pub value : ℕ → ℕ → ℕ → (ℕ → ℕ) → ℕ → ℕ
value m p x = horner (λ v. times m p v x)

-- f 0 + f 1 + .. + f (n - 1)
unfoldable pub sum_to : ℕ → (ℕ → ℕ) → ℕ
sum_to zero f = 0
sum_to (suc n) f = sum_to n f + f n

-- 1 where two symbols differ; and in how many places two words differ, from one place on and before another
unfoldable pub differs : ℕ → ℕ → ℕ
differs x y = cond (eqb x y) 0 1

unfoldable pub apart_between : ℕ → ℕ → List ℕ → List ℕ → ℕ
apart_between from to c d = sum_to (to - from) (λ i. differs (at c (from + i)) (at d (from + i)))

-- the distance of two words: in how many of all places of the first they differ
unfoldable pub apart : List ℕ → List ℕ → ℕ
apart c d = apart_between 0 (length c) c d
