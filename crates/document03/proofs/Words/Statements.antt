-- Document 03 on words: its definitions as it writes them, and its statement `Codes`. Its sums, products and powers are those of the fields.
-- Assumes nothing.
use mathlib.Core.Path.{◌≡◌}
use mathlib.Core.Bool.{Bool, true, false, not, ◌&&◌}
use mathlib.Core.List.{List, [], ◌∷◌, ◌++◌}
use Prim.Native.Nat.{ℕ, zero, suc, ◌+◌, ◌-◌, ◌*◌, ◌/◌, ◌%◌, ◌^◌, ◌≤◌}
use lib.Dec.{eqb, ltb, leb}
use lib.ListN.{length, get_or, take, drop, replicate}
use Rattle.document03.proofs.Fields.{xor, times_a, times_b, pow_a, pow_b}

abbrev pub when : Bool → ℕ → ℕ
when true n = n
when false n = 0

-- coefficients, highest power first; the generator with roots a^0 to a^15
abbrev pub scaled_a : ℕ → List ℕ → List ℕ
scaled_a x [] = []
scaled_a x (c ∷ cs) = times_a x c ∷ scaled_a x cs

abbrev pub sums : List ℕ → List ℕ → List ℕ
sums [] ys = ys
sums (x ∷ xs) [] = x ∷ xs
sums (x ∷ xs) (y ∷ ys) = xor x y ∷ sums xs ys

abbrev pub with_root : ℕ → List ℕ → List ℕ
with_root r cs = sums (cs ++ (0 ∷ [])) (0 ∷ scaled_a r cs)

abbrev pub generator_from : ℕ → List ℕ → List ℕ
generator_from zero cs = cs
generator_from (suc i) cs = generator_from i (with_root (pow_a i) cs)

abbrev pub generator : List ℕ
generator = generator_from 16 (1 ∷ [])

-- the remainder of a word times z^16 by the generator: a register of 16 symbols
abbrev pub shifted_in : List ℕ → List ℕ → ℕ → List ℕ
shifted_in g reg s = let f = xor (get_or reg 0 0) s in sums (drop 1 reg ++ (0 ∷ [])) (scaled_a f (drop 1 g))

abbrev pub register_from : List ℕ → List ℕ → List ℕ → List ℕ
register_from g reg [] = reg
register_from g reg (s ∷ ss) = register_from g (shifted_in g reg s) ss

abbrev pub outer_checks : List ℕ → List ℕ
outer_checks ss = register_from generator (replicate 16 0) ss

-- zero at all sixteen roots
abbrev pub value_at : ℕ → ℕ → List ℕ → ℕ
value_at x v [] = v
value_at x v (s ∷ ss) = value_at x (xor (times_a v x) s) ss

abbrev pub roots_from : ℕ → List ℕ → Bool
roots_from zero ss = true
roots_from (suc i) ss = eqb (value_at (pow_a i) 0 ss) 0 && roots_from i ss

abbrev pub all_symbols : List ℕ → Bool
all_symbols [] = true
all_symbols (s ∷ ss) = ltb s 1024 && all_symbols ss

abbrev pub is_outer : List ℕ → Bool
is_outer ss = all_symbols ss && roots_from 16 ss

-- inner words: 2,040 places that the product of eight binary polynomials divides
abbrev pub factors : List ℕ
factors = 2053 ∷ (2341 ∷ (2189 ∷ (2093 ∷ (3085 ∷ (3851 ∷ (2147 ∷ (2419 ∷ ([]))))))))

-- a polynomial's bits, highest power first, and a product of two
abbrev pub bits_from : ℕ → ℕ → List ℕ
bits_from zero v = []
bits_from (suc n) v = (v / 2 ^ n % 2) ∷ bits_from n v

abbrev pub bit_scaled : ℕ → List ℕ → List ℕ
bit_scaled zero bs = replicate (length bs) 0
bit_scaled (suc x) bs = bs

abbrev pub product_of : List ℕ → List ℕ → List ℕ → List ℕ
product_of [] bs acc = acc
product_of (x ∷ xs) bs acc = product_of xs bs (sums (acc ++ (0 ∷ [])) (replicate (length acc + 1 - length bs) 0 ++ bit_scaled x bs))

abbrev pub times2 : List ℕ → List ℕ → List ℕ
times2 xs bs = product_of xs bs (replicate (length bs - 1) 0)

abbrev pub divisor_from : List ℕ → List ℕ → List ℕ
divisor_from [] acc = acc
divisor_from (f ∷ fs) acc = divisor_from fs (times2 acc (bits_from 12 f))

abbrev pub divisor : List ℕ
divisor = divisor_from factors (1 ∷ [])

-- the remainder of bits times z^88: a register of 88 bits
abbrev pub bit_in : List ℕ → List ℕ → ℕ → List ℕ
bit_in g reg s = let f = xor (get_or reg 0 0) s in sums (drop 1 reg ++ (0 ∷ [])) (bit_scaled f (drop 1 g))

abbrev pub bit_register : List ℕ → List ℕ → List ℕ → List ℕ
bit_register g reg [] = reg
bit_register g reg (s ∷ ss) = bit_register g (bit_in g reg s) ss

abbrev pub inner_checks : List ℕ → List ℕ
inner_checks bs = bit_register divisor (replicate 88 0) bs

abbrev pub all_bits : List ℕ → Bool
all_bits [] = true
all_bits (b ∷ bs) = ltb b 2 && all_bits bs

abbrev pub same : List ℕ → List ℕ → Bool
same [] [] = true
same [] (y ∷ ys) = false
same (x ∷ xs) [] = false
same (x ∷ xs) (y ∷ ys) = eqb x y && same xs ys

abbrev pub is_inner : List ℕ → Bool
is_inner bs = eqb (length bs) 2040 && (all_bits bs && same (inner_checks (take 1952 bs)) (drop 1952 bs))

-- the factors are the least binary polynomials of a, a^3, … a^15: each vanishes there, none of lower degree does
abbrev pub value_b : ℕ → ℕ → List ℕ → ℕ
value_b x v [] = v
value_b x v (b ∷ bs) = value_b x (xor (times_b v x) b) bs

abbrev pub vanishes_from : ℕ → List ℕ → Bool
vanishes_from e [] = true
vanishes_from e (f ∷ fs) = eqb (value_b (pow_b e) 0 (bits_from 12 f)) 0 && vanishes_from (e + 2) fs

-- how many places differ; within eight
abbrev pub apart : List ℕ → List ℕ → ℕ
apart [] ys = 0
apart (x ∷ xs) [] = 0
apart (x ∷ xs) (y ∷ ys) = when (not (eqb x y)) 1 + apart xs ys

abbrev pub is_near : List ℕ → List ℕ → Bool
is_near xs ys = eqb (length xs) (length ys) && leb (apart xs ys) 8

pub record Codes : Type 0 where
  pub factors_vanish : vanishes_from 1 factors ≡ true
  pub none_lower : (e v : ℕ) → leb e 7 ≡ true → leb 1 v ≡ true → ltb v 2048 ≡ true → eqb (value_b (pow_b (2 * e + 1)) 0 (bits_from 12 v)) 0 ≡ false
  pub outer_made : (ss : List ℕ) → all_symbols ss ≡ true → leb (length ss) 1007 ≡ true → is_outer (ss ++ outer_checks ss) ≡ true
  -- code words of one length differ in at least 17 symbols or places
  pub outer_far : (xs ys : List ℕ) → is_outer xs ≡ true → is_outer ys ≡ true → length xs ≡ length ys → leb (length xs) 1023 ≡ true → same xs ys ≡ false → 17 ≤ apart xs ys
  pub inner_far : (xs ys : List ℕ) → is_inner xs ≡ true → is_inner ys ≡ true → same xs ys ≡ false → 17 ≤ apart xs ys
