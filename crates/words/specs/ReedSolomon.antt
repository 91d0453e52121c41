-- Reed-Solomon codes by their parameters: the field of degree m and polynomial p, the exponent `first` of the first root, and the number of roots,
-- which is that of the parity symbols ("check symbols") at the end of a word. The roots are a^first, a^(first + 1), and so on.
use Rattle.std.specs.Prelude.{Bool, ◌&&◌, List, [], ◌∷◌, ℕ, zero, suc, ◌+◌, ◌^◌, eqb, length}
use Rattle.fields.specs.Lists.{tabulate}
use Rattle.fields.specs.Elements.{xor, times, power}
use Rattle.fields.specs.Places.{at, every, all_below, value}

-- a word's value at the root a^(first + j): its first symbol has the highest power
unfoldable pub value_at_root : ℕ → ℕ → ℕ → List ℕ → ℕ → ℕ
value_at_root m p first w j = value m p (power m p (first + j)) (at w) (length w)

-- a code word: symbols below 2^m, and zero at all roots
unfoldable pub is_code_word : ℕ → ℕ → ℕ → ℕ → List ℕ → Bool
is_code_word m p first roots w = all_below (2 ^ m) w && every roots (λ j. eqb (value_at_root m p first w j) 0)

-- x + r times the polynomial with the coefficients g, highest power first
unfoldable pub with_root : ℕ → ℕ → ℕ → List ℕ → List ℕ
with_root m p r g = tabulate (suc (length g)) (λ i. xor (at g i) (times m p r (at (0 ∷ g) i)))

-- the generator: the polynomial with these roots and the leading coefficient 1
unfoldable pub generator_of : ℕ → ℕ → ℕ → ℕ → List ℕ
generator_of m p first zero = 1 ∷ []
generator_of m p first (suc n) = with_root m p (power m p (first + n)) (generator_of m p first n)

-- One step of division by g, a polynomial of degree n with the leading coefficient 1; mul multiplies coefficients. The register reg holds the
-- remainder so far: n coefficients, the highest power first. They move up a power, and the word's next symbol s is added at the power n. What
-- stands there is the leading coefficient, and so many times g is taken away
unfoldable pub shifted_in : (ℕ → ℕ → ℕ) → ℕ → (ℕ → ℕ) → List ℕ → ℕ → List ℕ
shifted_in mul n g reg s = tabulate n (λ i. xor (at reg (suc i)) (mul (xor (at reg 0) s) (g (suc i))))

-- the register after the first k symbols of d; before them it is empty: n zeros
unfoldable pub divided : (ℕ → ℕ → ℕ) → ℕ → (ℕ → ℕ) → (ℕ → ℕ) → ℕ → List ℕ
divided mul n g d zero = tabulate n (λ i. 0)
divided mul n g d (suc k) = shifted_in mul n g (divided mul n g d k) (d k)

-- the parity symbols of data: the remainder after division of the data, times x^roots, by the generator
unfoldable pub parity_of : ℕ → ℕ → ℕ → ℕ → List ℕ → List ℕ
parity_of m p first roots d = divided (times m p) roots (at (generator_of m p first roots)) (at d) (length d)
