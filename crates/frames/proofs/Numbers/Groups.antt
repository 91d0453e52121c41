-- Groups of bits: eight symbols of ten bytes, and five bytes of four symbols, joined to numbers and taken apart. Assumes nothing.
use mathlib.Core.Path.{◌≡◌, refl, sym, ap, ap₂, ◌∙◌}
use mathlib.Core.List.{List, [], ◌∷◌, ◌++◌}
use Prim.Native.Nat.{ℕ, ◌+◌, ◌-◌, ◌*◌, ◌/◌, ◌%◌, ◌^◌, ◌≤◌, ◌<◌}
use native.Mathlib.Nat.{add-mul, add_assoc, mul-add, mul_assoc, mul-le-mul_left, mul-zero}
use native.Mathlib.Omega.{arith}
use borrow.Rule.Slice.PartMut.{put_mid}
use lib.Bits.{bit_and, bit_or, and_mask, mask_lt, or_shifted}
use lib.Dec.{lit<, lit≤}
use lib.ListN.{length, get_or, set, take, drop}
use lib.Pow.{pow-add, shl_exact, shl_lt}
use mir.Syntax.{w8, w16, w64}
use mir.Val.{Fits}
use Rattle.std.specs.Int.{from_be_bytes, to_be_bytes}
use Rattle.fields.specs.Lists.{tabulate}
use Rattle.fields.specs.Places.{at}
use Rattle.fields.proofs.Lists.{tabulate_append, tabulate_at, tabulate_length, tabulate_same}
use Rattle.fields.proofs.Places.Filling.{Filled, filled_next, filled_end}
use Rattle.words.specs.Bits.{bit_of, number_of, bit_at}
use Rattle.words.proofs.Bits.Numbers.{bit_of_lt, bit_of_number, number_of_same, number_parts}
use Rattle.words.proofs.Bits.Bytes.{bit_at_lt, places_read, number_of_bits}
use Rattle.frames.specs.Frames.{symbol_at}
use Rattle.frames.specs.Steps.Symbols.{symbol_bit, number_at, parts_of, part_from}
use Rattle.frames.proofs.Numbers.Parts.{part_written}
use Rattle.frames.proofs.Numbers.Slices.{two_slices}

-- ---- a number of w bits made of digits of n bits each, the first the highest

-- one digit more, below
digit_below : (w n a x k : ℕ) → x < 2 ^ n → k + n ≤ w → bit_or (a * 2 ^ (k + n)) (x * 2 ^ k % 2 ^ w) ≡ (a * 2 ^ n + x) * 2 ^ k
digit_below w n a x k h l =
    let e : n + k ≡ k + n = omega arith in
    ap (bit_or (a * 2 ^ (k + n))) (shl_exact n k w h (omega arith)) ∙ or_shifted a (k + n) (x * 2 ^ k) (rw e at (shl_lt n k h))
    ∙ sym (add-mul (a * 2 ^ n) x (2 ^ k)
    ∙ ap (λ (y : ℕ). y + x * 2 ^ k) (mul_assoc a (2 ^ n) (2 ^ k) ∙ ap (λ (y : ℕ). a * y) (sym (pow-add 2 n k) ∙ ap (λ (y : ℕ). 2 ^ y) e)))

module _ (w n : ℕ) (bits digit : ℕ → ℕ) (small : (m : ℕ) → digit m < 2 ^ n) (is : (m : ℕ) → number_of n (λ j. bits (n * m + j)) ≡ digit m) where
  first_digit : (k : ℕ) → k + n ≤ w → digit 0 * 2 ^ k % 2 ^ w ≡ number_of n bits * 2 ^ k
  first_digit k l =
      shl_exact n k w (small 0) (omega arith)
      ∙ ap (λ (y : ℕ). y * 2 ^ k) (sym (is 0) ∙ number_of_same n _ _ (λ j h. ap bits (omega (arith, mul-zero n))))

  digits_and : (m : ℕ) → number_of (n * m) bits * 2 ^ n + digit m ≡ number_of (n * m + n) bits
  digits_and m = sym (number_parts (n * m) n bits ∙ ap (λ (y : ℕ). number_of (n * m) bits * 2 ^ n + y) (is m))

  -- the digits before digit m, and digit m
  next_digit : (m k : ℕ) {x : ℕ} → k + n ≤ w → x ≡ number_of (n * m) bits * 2 ^ (k + n) →
      bit_or x (digit m * 2 ^ k % 2 ^ w) ≡ number_of (n * m + n) bits * 2 ^ k
  next_digit m k l e =
      ap (λ (y : ℕ). bit_or y (digit m * 2 ^ k % 2 ^ w)) e ∙ digit_below w n (number_of (n * m) bits) (digit m) k (small m) l
      ∙ ap (λ (y : ℕ). y * 2 ^ k) (digits_and m)

  last_digit : (m : ℕ) {x : ℕ} → x ≡ number_of (n * m) bits * 2 ^ n → bit_or x (digit m) ≡ number_of (n * m + n) bits
  last_digit m e = ap (λ (y : ℕ). bit_or y (digit m)) e ∙ or_shifted (number_of (n * m) bits) n (digit m) (small m) ∙ digits_and m

-- ---- two bytes and a symbol in them, and eight bytes

no_bits : (b : ℕ → ℕ) → number_of 0 b ≡ 0
unfolding number_of
no_bits b = refl

module _ (bytes : List ℕ) (p : ℕ) (fits : (i : ℕ) → Fits w8 (get_or bytes i 0)) where
  abbrev byte : ℕ → ℕ
  byte m = get_or bytes (p + m) 0

  byte_lt : (m : ℕ) → byte m < 2 ^ 8
  byte_lt m = (fits (p + m)).fits

  byte_bits : (m : ℕ) → number_of 8 (λ j. bit_at bytes (8 * p + (8 * m + j))) ≡ byte m
  byte_bits m =
      let i = 8 * p + 8 * m in
      let q : i / 8 ≡ p + m = omega arith in
      let r : 8 - (i % 8 + 8) ≡ 0 = omega arith in
      number_of_same 8 _ _ (λ j h. ap (bit_at bytes) (omega arith)) ∙ places_read bytes i 8 (omega arith) ∙ rw (q, r) (omega (arith, byte_lt m))

  -- one byte more
  byte_more : (m : ℕ) → number_of (8 * m) (λ j. bit_at bytes (8 * p + j)) * 256 + byte m ≡ number_of (8 * m + 8) (λ j. bit_at bytes (8 * p + j))
  byte_more = digits_and 64 8 (λ j. bit_at bytes (8 * p + j)) byte byte_lt byte_bits

  two_joined : (x y : ℕ) → x ≡ byte 0 → y ≡ byte 1 → from_be_bytes w16 (x ∷ y ∷ []) ≡ number_at 16 (bit_at bytes) (8 * p)
  unfolding number_at
  two_joined x y ex ey = omega (arith, no_bits (λ j. bit_at bytes (8 * p + j)), byte_more 0, byte_more 1)

  pub eight_joined : (xs : List ℕ) → ((i : ℕ) → i < 8 → at xs i ≡ byte i) → from_be_bytes w64 xs ≡ number_at 64 (bit_at bytes) (8 * p)
  unfolding number_at
  eight_joined xs e =
      omega (
        arith,
        no_bits (λ j. bit_at bytes (8 * p + j)),
        byte_more 0,
        byte_more 1,
        byte_more 2,
        byte_more 3,
        byte_more 4,
        byte_more 5,
        byte_more 6,
        byte_more 7,
        e 0 (lit< tt),
        e 1 (lit< tt),
        e 2 (lit< tt),
        e 3 (lit< tt),
        e 4 (lit< tt),
        e 5 (lit< tt),
        e 6 (lit< tt),
        e 7 (lit< tt),
      )

  pub nine_are : number_at 64 (bit_at bytes) (8 * p) * 256 + byte 8 ≡ number_at 72 (bit_at bytes) (8 * p)
  unfolding number_at
  nine_are = byte_more 8

pub number_bit : (n : ℕ) (b : ℕ → ℕ) → ((i : ℕ) → b i < 2) → (i j : ℕ) → j < n → bit_of n (number_at n b i) j ≡ b (i + j)
unfolding number_at
number_bit n b bits i j l = bit_of_number (λ j. b (i + j)) (λ j. bits (i + j)) n j l

pub symbol_inside : (bytes : List ℕ) (i x : ℕ) → ((k : ℕ) → Fits w8 (get_or bytes k 0)) → i % 8 ≤ 6 →
    x ≡ from_be_bytes w16 (get_or bytes (i / 8) 0 ∷ get_or bytes (i / 8 + 1) 0 ∷ []) → bit_and (x / 2 ^ (6 - i % 8)) 1023 ≡ number_at 10 (bit_at bytes) i
unfolding number_at
symbol_inside bytes i x fits l e =
    let k = i / 8 in
    let j = i % 8 in
    let s : 6 - j ≡ 16 - (j + 10) = omega arith in
    let two : x ≡ number_at 16 (bit_at bytes) (8 * k) = e ∙ two_joined bytes k fits _ _ (ap (λ (m : ℕ). get_or bytes m 0) (omega arith)) refl in
    and_mask (x / 2 ^ (6 - j)) 10 ∙ ap (λ (z : ℕ). x / 2 ^ z % 2 ^ 10) s ∙ sym (number_of_bits 16 x j 10 (omega arith))
    ∙ number_of_same 10 _ _ (λ m h. ap (λ (y : ℕ). bit_of 16 y (j + m)) two
    ∙ number_bit 16 (bit_at bytes) (bit_at_lt bytes) (8 * k) (j + m) (omega arith) ∙ ap (bit_at bytes) (omega arith))

-- ---- four symbols

module _ (outer : List ℕ) (t : ℕ) where
  abbrev symbol : ℕ → ℕ
  symbol m = bit_and (get_or outer (t + m) 0) 1023

  symbol_lt : (m : ℕ) → symbol m < 2 ^ 10
  symbol_lt m = mask_lt (get_or outer (t + m) 0) 10

  abbrev symbol_bits_lem : ℕ → ℕ
  symbol_bits_lem j = symbol_bit (at outer) (10 * t + j)

  symbol_is : (m : ℕ) → number_of 10 (λ j. symbol_bits_lem (10 * m + j)) ≡ symbol m
  unfolding symbol_bit
  symbol_is m =
      let y = get_or outer (t + m) 0 in
      let e : 10 - (0 + 10) ≡ 0 = omega arith in
      number_of_same 10 _ (λ j. bit_of 10 y (0 + j)) (λ j h.
      let q : (10 * t + (10 * m + j)) / 10 ≡ t + m = omega arith in
      let r : (10 * t + (10 * m + j)) % 10 ≡ 0 + j = omega arith in
      rw (q, r))
      ∙ number_of_bits 10 y 0 10 (lit≤ tt) ∙ rw e (sym (and_mask y 10 ∙ omega arith))

  next_symbol : (m k : ℕ) {x : ℕ} → k + 10 ≤ 64 → x ≡ number_of (10 * m) symbol_bits_lem * 2 ^ (k + 10) →
      bit_or x (symbol m * 2 ^ k % 2 ^ 64) ≡ number_of (10 * m + 10) symbol_bits_lem * 2 ^ k
  next_symbol = next_digit 64 10 symbol_bits_lem symbol symbol_lt symbol_is

  four_made : bit_or (bit_or (bit_or (symbol 0 * 2 ^ 30 % 2 ^ 64) (symbol 1 * 2 ^ 20 % 2 ^ 64)) (symbol 2 * 2 ^ 10 % 2 ^ 64)) (symbol 3)
      ≡ number_at 40 (symbol_bit (at outer)) (10 * t)
  unfolding number_at
  four_made =
      let one = first_digit 64 10 symbol_bits_lem symbol symbol_lt symbol_is 30 (lit≤ tt) in
      last_digit 64 10 symbol_bits_lem symbol symbol_lt symbol_is 3 (next_symbol 2 10 (lit≤ tt) (next_symbol 1 20 (lit≤ tt) one))

pub four_joined : (symbols : List ℕ) {x₀ x₁ x₂ x₃ : ℕ} → x₀ ≡ bit_and (get_or symbols 0 0) 1023 → x₁ ≡ bit_and (get_or symbols 1 0) 1023 →
    x₂ ≡ bit_and (get_or symbols 2 0) 1023 → x₃ ≡ bit_and (get_or symbols 3 0) 1023 →
    bit_or (bit_or (bit_or (x₀ * 2 ^ 30 % 2 ^ 64) (x₁ * 2 ^ 20 % 2 ^ 64)) (x₂ * 2 ^ 10 % 2 ^ 64)) x₃ ≡ number_at 40 (symbol_bit (at symbols)) 0
four_joined symbols e₀ e₁ e₂ e₃ = rw (e₀, e₁, e₂, e₃) (four_made symbols 0)

-- ---- numbers one after the other

pub parts_length : (n m : ℕ) (b : ℕ → ℕ) (i : ℕ) → length (parts_of n m b i) ≡ m
unfolding parts_of
parts_length n m b i = tabulate_length m _

pub parts_at : (n m : ℕ) (b : ℕ → ℕ) (i s : ℕ) → s < m → at (parts_of n m b i) s ≡ number_at n b (i + n * s)
unfolding parts_of
parts_at n m b i s l = tabulate_at m _ s 0 l

pub parts_same : (n m : ℕ) (b c : ℕ → ℕ) (i k : ℕ) → ((j : ℕ) → j < n * m → b (i + j) ≡ c (k + j)) → parts_of n m b i ≡ parts_of n m c k
unfolding parts_of number_at
parts_same n m b c i k e =
    tabulate_same m _ _ (λ s l. number_of_same n _ _ (λ j h.
    ap b (add_assoc i (n * s) j) ∙ e (n * s + j) (within n m s j l h) ∙ ap c (sym (add_assoc k (n * s) j))))
  where
    within : (n m s j : ℕ) → s < m → j < n → n * s + j < n * m
    within n m s j l h = omega (arith, mul-add n s 1, mul-le-mul_left n l)

-- numbers after numbers
parts_append : (n m k : ℕ) (b : ℕ → ℕ) (i : ℕ) → parts_of n m b i ++ parts_of n k b (i + n * m) ≡ parts_of n (m + k) b i
unfolding parts_of
parts_append n m k b i =
    tabulate_append m k (λ s. number_at n b (i + n * s)) (λ s. number_at n b (i + n * m + n * s)) (λ s. ap (number_at n b) (omega (arith, mul-add n m s)))

-- the numbers that a loop stores, from bit i on
abbrev pub number_from : ℕ → (ℕ → ℕ) → ℕ → ℕ → ℕ
number_from n b i s = number_at n b (i + n * s)

pub numbers_end : (n : ℕ) (b : ℕ → ℕ) (i : ℕ) {m s : ℕ} {out : List ℕ} → Filled m (number_from n b i) s out → m ≤ s → out ≡ parts_of n m b i
unfolding parts_of
numbers_end n b i f l = filled_end f l

-- g of them at once
group_from : (n g w : ℕ) → n * g ≡ w → (b : ℕ → ℕ) (i q : ℕ) → parts_of n g b (i + w * q) ≡ part_from (number_from n b i) (g * q) g
unfolding parts_of part_from
group_from n g w whole b i q =
    tabulate_same g _ _ (λ s h. ap (number_at n b) (omega (arith, mul-add n (g * q) s, mul_assoc n g q, ap (λ (y : ℕ). y * q) whole)))

group_next : (n g w : ℕ) → n * g ≡ w → (b : ℕ → ℕ) (i : ℕ) {size : ℕ} (q k : ℕ) {out ys : List ℕ} → Filled size (number_from n b i) (g * q) out → g * (q + 1) ≤ size →
    k ≡ g → ys ≡ parts_of n g b (i + w * q) → Filled size (number_from n b i) (g * (q + 1)) (put_mid (g * q) k out ys)
group_next n g w whole b i {size} q k {out} {ys} f room ek e =
    let step : g * q + g ≡ g * (q + 1) = sym (mul-add g q 1 ∙ omega arith) in
    rw step at (part_written (number_from n b i) (g * q) g k f (omega arith) ek (e ∙ group_from n g w whole b i q))

-- ---- five bytes of four symbols

-- byte s of 40 bits
byte_read : (s k x : ℕ) → 8 * s + 8 + k ≡ 40 → x / 2 ^ k % 2 ^ 8 ≡ number_at 8 (bit_of 40 x) (0 + 8 * s)
unfolding number_at
byte_read s k x h =
    let e : k ≡ 40 - (8 * s + 8) = omega arith in
    ap (λ (z : ℕ). x / 2 ^ z % 2 ^ 8) e ∙ sym (number_of_bits 40 x (8 * s) 8 (omega arith)) ∙ number_of_same 8 _ _ (λ j l. ap (bit_of 40 x) (omega arith))

cons : {x y : ℕ} {xs ys : List ℕ} → x ≡ y → xs ≡ ys → x ∷ xs ≡ y ∷ ys
cons = ap₂ {C = List ℕ} (λ x xs. x ∷ xs)

five_bytes : (x : ℕ) → take 5 (drop 3 (to_be_bytes w64 x)) ≡ parts_of 8 5 (bit_of 40 x) 0
unfolding parts_of tabulate
five_bytes x =
    let e : x % 256 ≡ x / 2 ^ 0 % 2 ^ 8 = omega arith in
    cons (byte_read 0 32 x refl) (cons (byte_read 1 24 x refl) (cons (byte_read 2 16 x refl) (cons (byte_read 3 8 x refl) (cons (e ∙ byte_read 4 0 x refl) refl))))

symbol_bit_lt : (f : ℕ → ℕ) (i : ℕ) → symbol_bit f i < 2
unfolding symbol_bit
symbol_bit_lt f i = bit_of_lt 10 (f (i / 10)) (i % 10)

-- a bit of the symbols from symbol k on
pub symbols_from : (symbols part : List ℕ) (k i : ℕ) → at part (i / 10) ≡ at symbols (k + i / 10) → symbol_bit (at part) i ≡ symbol_bit (at symbols) (10 * k + i)
unfolding symbol_bit
symbols_from symbols part k i e =
    let q : (10 * k + i) / 10 ≡ k + i / 10 = omega arith in
    let r : (10 * k + i) % 10 ≡ i % 10 = omega arith in
    ap (λ (x : ℕ). bit_of 10 x (i % 10)) e ∙ rw (q, r)

pub bytes_next : (symbols rest : List ℕ) {size : ℕ} (q k x : ℕ) {eight out five : List ℕ} → Filled size (number_from 8 (symbol_bit (at symbols)) 0) (5 * q) out →
    5 * (q + 1) ≤ size → k ≡ 5 → ((i : ℕ) → at rest i ≡ at symbols (4 * q + i)) → x ≡ number_at 40 (symbol_bit (at rest)) 0 → eight ≡ to_be_bytes w64 x →
    five ≡ take 5 (drop 3 eight) → Filled size (number_from 8 (symbol_bit (at symbols)) 0) (5 * (q + 1)) (put_mid (5 * q) k out five)
unfolding number_at
bytes_next symbols rest {size} q k x {eight} {out} {five} f room ek same ex ee ef =
    let b = symbol_bit (at symbols) in
    let made : five ≡ parts_of 8 5 (bit_of 40 x) 0 = ef ∙ ap (λ (xs : List ℕ). take 5 (drop 3 xs)) ee ∙ five_bytes x in
    let group : parts_of 8 5 (bit_of 40 x) 0 ≡ parts_of 8 5 b (0 + 40 * q) = parts_same 8 5 (bit_of 40 x) b 0 (0 + 40 * q) (λ j h.
    let z : 0 + j ≡ j = omega arith in
    ap (bit_of 40 x) z ∙ ap (λ (y : ℕ). bit_of 40 y j) ex ∙ bit_of_number (λ j. symbol_bit (at rest) (0 + j)) (λ j. symbol_bit_lt (at rest) (0 + j)) 40 j h
    ∙ ap (symbol_bit (at rest)) z ∙ symbols_from symbols rest (4 * q) j (same (j / 10)) ∙ ap b (omega arith)) in
    group_next 8 5 40 refl b 0 q k f room ek (made ∙ group)

-- ---- eight symbols of ten bytes

pub eight_are : (b : ℕ → ℕ) {s₀ s₁ s₂ s₃ s₄ s₅ s₆ s₇ : ℕ} → s₀ ≡ number_at 10 b 0 → s₁ ≡ number_at 10 b 10 → s₂ ≡ number_at 10 b 20 → s₃ ≡ number_at 10 b 30 →
    s₄ ≡ number_at 10 b 40 → s₅ ≡ number_at 10 b 50 → s₆ ≡ number_at 10 b 60 → s₇ ≡ number_at 10 b 70 →
    (s₀ ∷ s₁ ∷ s₂ ∷ s₃ ∷ s₄ ∷ s₅ ∷ s₆ ∷ s₇ ∷ []) ≡ parts_of 10 8 b 0
unfolding parts_of tabulate
eight_are b e₀ e₁ e₂ e₃ e₄ e₅ e₆ e₇ = cons e₀ (cons e₁ (cons e₂ (cons e₃ (cons e₄ (cons e₅ (cons e₆ (cons e₇ refl)))))))

pub eights_next : (bytes rest : List ℕ) {size : ℕ} (q k : ℕ) {eight out part : List ℕ} → Filled size (number_from 10 (bit_at bytes) 0) (8 * q) out →
    8 * (q + 1) ≤ size → k ≡ 8 → ((i : ℕ) → bit_at rest i ≡ bit_at bytes (8 * (10 * q) + i)) → eight ≡ parts_of 10 8 (bit_at rest) 0 → part ≡ eight →
    Filled size (number_from 10 (bit_at bytes) 0) (8 * (q + 1)) (put_mid (8 * q) k out part)
eights_next bytes rest {size} q k {eight} {out} {part} f room ek same e ep =
    let group : parts_of 10 8 (bit_at rest) 0 ≡ parts_of 10 8 (bit_at bytes) (0 + 80 * q) = parts_same 10 8 (bit_at rest) (bit_at bytes) 0 (0 + 80 * q) (λ j h.
    ap (bit_at rest) (omega arith) ∙ same j ∙ ap (bit_at bytes) (omega arith)) in
    group_next 10 8 80 refl (bit_at bytes) 0 q k f room ek (ep ∙ e ∙ group)

-- ---- symbols one by one; and before and after eights

pub each_next : (bytes : List ℕ) (i : ℕ) {n s v : ℕ} {out : List ℕ} → Filled n (number_from 10 (bit_at bytes) i) s out → s < n → v ≡ symbol_at (bit_at bytes) (i + 10 * s) →
    Filled n (number_from 10 (bit_at bytes) i) (s + 1) (set out s v)
unfolding symbol_at number_at
each_next bytes i f l e = filled_next f l e

pub eights_and_each : (bytes : List ℕ) (n q k r : ℕ) {out part : List ℕ} → Filled n (number_from 10 (bit_at bytes) 0) (8 * q) out → 8 * q ≤ n → k ≡ n - 8 * q →
    r ≡ n - 8 * q → part ≡ parts_of 10 r (bit_at bytes) (80 * q) → put_mid (8 * q) k out part ≡ parts_of 10 n (bit_at bytes) 0
unfolding parts_of part_from
eights_and_each bytes n q k r {out} {part} f room ek er e =
    let b = bit_at bytes in
    let m = n - 8 * q in
    let same : part ≡ part_from (number_from 10 b 0) (8 * q) m = e ∙ ap (λ (x : ℕ). parts_of 10 x b (80 * q)) er ∙ tabulate_same m _ _ (λ s h. ap (number_at 10 b) (omega arith)) in
    filled_end (part_written (number_from 10 b 0) (8 * q) m k f (omega arith) ek same) (omega arith)

-- three symbols more for each two bits that the first begins after a byte
whole_bytes : (i : ℕ) → i % 2 ≡ 0 → 8 * ((i + 10 * (3 * (i % 8 / 2) % 4)) / 8) ≡ i + 10 * (3 * (i % 8 / 2) % 4)
whole_bytes i even =
    let h = i % 8 / 2 in
    let f = 3 * h % 4 in
    let k = i / 8 + 4 * h - 5 * (3 * h / 4) in
    let a : i ≡ 8 * (i / 8) + 2 * h = omega arith in
    let b : 3 * h ≡ 4 * (3 * h / 4) + f = omega arith in
    let e : i + 10 * f ≡ 8 * k = omega arith in
    rw e (omega arith)

pub each_and_bytes : (bytes rest before : List ℕ) (i n f k m r : ℕ) {first part : List ℕ} → i % 2 ≡ 0 → f ≡ 3 * (i % 8 / 2) % 4 → f ≤ n → length before ≡ n →
    k ≡ (i + 10 * f) / 8 → ((j : ℕ) → bit_at rest j ≡ bit_at bytes (8 * k + j)) → first ≡ parts_of 10 r (bit_at bytes) i → r ≡ f →
    part ≡ parts_of 10 m (bit_at rest) 0 → m ≡ n - f → (s : ℕ) → s ≡ m → put_mid f s (first ++ drop f before) part ≡ parts_of 10 n (bit_at bytes) i
each_and_bytes bytes rest before i n f k m r {first} {part} even ef room long ek same e1 er e2 em s es =
    let b = bit_at bytes in
    let e : f + m ≡ n = omega arith in
    let whole : 8 * k ≡ i + 10 * f = rw (ek, ef) (whole_bytes i even) in
    let moved : part ≡ parts_of 10 m b (i + 10 * f) = e2 ∙ parts_same 10 m (bit_at rest) b 0 (i + 10 * f) (λ j h.
    ap (bit_at rest) (omega arith) ∙ same j ∙ ap b (omega (arith, whole))) in
    let one : first ≡ parts_of 10 f b i = e1 ∙ ap (λ (x : ℕ). parts_of 10 x b i) er in
    let both : first ++ part ≡ parts_of 10 n b i = rw (one, moved) (parts_append 10 f m b i ∙ ap (λ (x : ℕ). parts_of 10 x b i) e) in
    let l1 : length first ≡ f = ap length one ∙ parts_length 10 f b i in
    let l2 : length part ≡ s = ap length moved ∙ parts_length 10 m b (i + 10 * f) ∙ sym es in
    two_slices before first part f s l1 l2 (omega arith) ∙ both
