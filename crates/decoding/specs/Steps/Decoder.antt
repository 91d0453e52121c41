-- What the decoder gives, over a field that is lent as its two tables: es the powers, ls the exponents. One decoder serves all codes.
use Rattle.std.specs.Prelude.{◌≡◌, ◌&&◌, cond, List, ℕ, zero, suc, ◌-◌, ◌≤◌, ◌<◌, eqb, ltb, leb, length}
use Rattle.fields.specs.Lists.{tabulate}
use Rattle.fields.specs.Elements.{xor}
use Rattle.fields.specs.Steps.ByTables.{table_product, table_power, FieldTables}
use Rattle.fields.specs.Places.{at, sum_to, differs}

-- the two lists are the tables of some field
abbrev pub Tables : List ℕ → List ℕ → Type 0
Tables es ls = (m : ℕ) × (p : ℕ) × FieldTables m p es ls

-- the locator of place i of a word of n places: a^(n - 1 - i)
unfoldable pub locator : List ℕ → ℕ → ℕ → ℕ
locator es n i = table_power es (n - suc i)

-- f 0 + f 1 + .. + f (n - 1) in the field
unfoldable pub xor_to : ℕ → (ℕ → ℕ) → ℕ
xor_to zero f = 0
xor_to (suc n) f = xor (xor_to n f) (f n)

-- c times the j-th power of x
unfoldable pub times_power : (ℕ → ℕ → ℕ) → ℕ → ℕ → ℕ → ℕ
times_power mul x c zero = c
times_power mul x c (suc j) = mul x (times_power mul x c j)

-- the j-th syndrome of the errors e in a word of n places: the sum over all places of e times the j-th power of the locator
unfoldable pub syndrome : List ℕ → List ℕ → ℕ → (ℕ → ℕ) → ℕ → ℕ
syndrome es ls n e j = xor_to n (λ i. times_power (table_product es ls) (locator es n i) (e i) j)

-- the error at place i, where the first k places listed have the given values
unfoldable pub error_at : List ℕ → List ℕ → ℕ → ℕ → ℕ
error_at places values k i = xor_to k (λ l. cond (eqb (at places l) i) (at values l) 0)

-- t are the syndromes of the errors e in a word of n places, and e is not zero in at most eight
pub record Correctable (es ls t : List ℕ) (n : ℕ) (e : ℕ → ℕ) : Type 0 where
  pub elements : (i : ℕ) → e i < length ls
  pub syndromes : (j : ℕ) → j < 16 → at t j ≡ syndrome es ls n e j
  pub few : sum_to n (λ i. differs (e i) 0) ≤ 8

-- what is found for the syndromes t of a word of n places: `count` errors with their values, and what their syndromes leave of t
pub record Decoded (es ls t : List ℕ) (n : ℕ) (places values : List ℕ) (count : ℕ) (left : List ℕ) : Type 0 where
  pub few : count ≤ 8
  pub below : (k : ℕ) → k < count → at places k < n
  pub ascending : (k l : ℕ) → k < l → l < count → at places k < at places l
  pub elements : (k : ℕ) → k < count → at values k < length ls
  -- what is left is the difference of t and the syndromes of the errors found
  pub left_is : (j : ℕ) → j < 16 → at left j ≡ xor (at t j) (syndrome es ls n (error_at places values count) j)
  -- errors in at most eight places that have the syndromes t are found
  pub complete : (e : ℕ → ℕ) → Correctable es ls t n e → (i : ℕ) → i < n → error_at places values count i ≡ e i

-- 1 for an error that is not zero at a place from one on and before another; and how many of the first k errors are such
unfoldable pub change_between : ℕ → ℕ → ℕ → ℕ → ℕ
change_between from to place v = cond (leb from place && ltb place to) (differs v 0) 0

unfoldable pub weight_between : ℕ → ℕ → List ℕ → List ℕ → ℕ → ℕ
weight_between from to places values k = sum_to k (λ l. change_between from to (at places l) (at values l))

-- a word with v added to the symbol at place i, if there is one
unfoldable pub with_error : List ℕ → ℕ → ℕ → List ℕ
with_error w i v = tabulate (length w) (λ l. xor (at w l) (cond (eqb i l) v 0))

-- the word of n symbols w 0, w 1, .. with the errors' values added
unfoldable pub with_errors : (ℕ → ℕ) → List ℕ → List ℕ → ℕ → ℕ → List ℕ
with_errors w places values k n = tabulate n (λ i. xor (w i) (error_at places values k i))
