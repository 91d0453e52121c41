-- A polynomial over two elements with all sixteen roots of the generator: x^81 + x^79 + .. + x^2 + x + 1. Its multiples are sums of columns, without products, so a
-- row of 255 columns is folded to 81 before it is divided by the generator. The quotient's columns stand in a list, 81 columns of zeros before and after them.
use Rattle.std.specs.Prelude.{◌≡◌, List, [], ◌∷◌, ℕ, zero, suc, ◌+◌, ◌*◌, ◌≤◌, ◌<◌}
use Rattle.fields.specs.Elements.{xor}
use Rattle.fields.specs.Places.{at}

-- its exponents below 81
unfoldable pub exponents_below : List ℕ
exponents_below = 0 ∷ 1 ∷ 2 ∷ 3 ∷ 4 ∷ 9 ∷ 17 ∷ 20 ∷ 22 ∷ 23 ∷ 30 ∷ 32 ∷ 41 ∷ 42 ∷ 43 ∷ 48 ∷ 51 ∷ 57 ∷ 69 ∷ 75 ∷ 79 ∷ []

-- g 0 + g 1 + .. + g n
unfoldable pub sum_up_to : (ℕ → ℕ) → ℕ → ℕ
sum_up_to g zero = g 0
sum_up_to g (suc n) = xor (sum_up_to g n) (g (suc n))

-- the sum of the columns after byte i at these distances
unfoldable pub taps : List ℕ → ℕ → ℕ
taps q i = sum_up_to (λ n. at q (i + 16 * at exponents_below n)) 20

-- the quotient of the bytes d, of which k are done
pub record QuotientTo (d : ℕ → ℕ) (k : ℕ) (q : List ℕ) : Type 0 where
  pub front : (i : ℕ) → i < 1296 → at q i ≡ 0
  pub made : (i : ℕ) → i < k → at q (1296 + i) ≡ xor (d i) (taps q i)
  pub behind : (i : ℕ) → 1296 + k ≤ i → at q i ≡ 0
  pub bytes : (i : ℕ) → at q i < 256

-- the 81 columns that are left
pub record Folded (d : ℕ → ℕ) (q out : List ℕ) : Type 0 where
  pub first : (i : ℕ) → i < 1040 → at out i ≡ xor (d (2784 + i)) (taps q (2784 + i))
  pub last : (i : ℕ) → 1040 ≤ i → i < 1296 → at out i ≡ taps q (2784 + i)
