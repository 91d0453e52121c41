-- What the functions give that decode an inner word by its remainder.
use Rattle.std.specs.Prelude.{◌≡◌, Bool, ◌&&◌, ◌||◌, cond, List, ℕ, ◌+◌, ◌-◌, ◌*◌, ◌<◌, eqb, length}
use Rattle.fields.specs.Lists.{tabulate}
use Rattle.fields.specs.Elements.{xor, powers_b, exponents_b}
use Rattle.fields.specs.Steps.ByTables.{table_product, table_power}
use Rattle.fields.specs.Places.{at, every, all_below, differs}
use Rattle.decoding.specs.Steps.Decoder.{locator, xor_to, Decoded}
use Rattle.words.specs.Bits.{bit_of, bit_at}
use Rattle.words.specs.InnerCode.{divisor, remainder}

-- the value at a^e of the binary polynomial r of degree below 88, over a lent field: the sum of a^(e i) over its coefficients i that are 1
unfoldable pub powers_value : List ℕ → ℕ → ℕ → ℕ
powers_value es r e = xor_to 88 (λ i. bit_of 88 r (87 - i) * table_power es (e * i))

-- its values at a, a^3, .. a^15; and such values w with those of the term c z^i added
unfoldable pub odd_syndromes : List ℕ → ℕ → List ℕ
odd_syndromes es r = tabulate 8 (λ j. powers_value es r (2 * j + 1))

unfoldable pub plus_term : List ℕ → List ℕ → ℕ → ℕ → List ℕ
plus_term es w c i = tabulate 8 (λ j. xor (at w j) (c * table_power es ((2 * j + 1) * i)))

-- the first 2 n of the values t at a, a^2, .. a^16: those in w at odd powers, squares at even powers
pub record Syndromes (es ls w : List ℕ) (n : ℕ) (t : List ℕ) : Type 0 where
  pub long : length t ≡ 16
  pub odd : (i : ℕ) → i < n → at t (2 * i) ≡ at w i
  pub even : (i : ℕ) → i < n → at t (2 * i + 1) ≡ table_product es ls (at t i) (at t i)

-- an error's value is 0 or the locator x, as that of a wrong place is; and all of the first k are
unfoldable pub is_bit : ℕ → ℕ → Bool
is_bit value x = eqb value 0 || eqb value x

unfoldable pub is_binary : List ℕ → List ℕ → List ℕ → ℕ → Bool
is_binary es places values k = every k (λ l. is_bit (at values l) (locator es 2040 (at places l)))

-- 1 for each value that is not zero
unfoldable pub flips : List ℕ → List ℕ
flips values = tabulate 8 (λ k. differs (at values k) 0)

-- the errors found in the 2,040 places of a word that has the values w at a, a^3, .. a^15
pub record ErrorsOf (w places values : List ℕ) (count : ℕ) (left : List ℕ) : Type 0 where
  pub t : List ℕ
  pub syndromes : Syndromes powers_b exponents_b w 8 t
  pub decoded : Decoded powers_b exponents_b t 2040 places values count left
  pub left_long : length left ≡ 16

-- and of a word lent as bytes
pub record InnerErrors (w places values : List ℕ) (count : ℕ) (left : List ℕ) : Type 0 where
  pub found : ErrorsOf (odd_syndromes powers_b (remainder 88 divisor (bit_at w) 2040)) places values count left

-- what the errors invert of bit l of some bytes, where place i of the word stands at bit `step * i + first`
unfoldable pub inverted : ℕ → ℕ → List ℕ → List ℕ → ℕ → ℕ → ℕ
inverted step first places values k l = xor_to k (λ n. cond (eqb (step * at places n + first) l) (differs (at values n) 0) 0)

-- they leave nothing of the syndromes, and each has the value of a wrong place
unfoldable pub explains : List ℕ → List ℕ → List ℕ → ℕ → List ℕ → Bool
explains es places values count left = all_below 1 left && is_binary es places values count
