-- The outer words of a block, read from its bytes six symbols at a time and tested. Assumes nothing.
use mathlib.Core.Path.{◌≡◌, refl, sym, ap, ap₂, ◌∙◌}
use mathlib.Core.Bool.{◌&&◌, and-eq-true_iff, Bool, true, false}
use mathlib.Core.List.{List}
use Prim.Native.Nat.{ℕ, zero, suc, ◌+◌, ◌-◌, ◌*◌, ◌/◌, ◌%◌, ◌^◌, ◌≤◌, ◌<◌}
use native.Mathlib.Nat.{le_refl, mod-lt}
use native.Mathlib.Decide.{dec_lt}
use native.Mathlib.Omega.{arith}
use lib.Bits.{bit_or, bit_xor, or_shifted}
use lib.Dec.{eqb, lit<}
use lib.ListN.{length, get_or, take}
use lib.Pow.{field, high, low, mod-pow-add, pow_mono, shr-shr}
use lib.Seq.{get_or-take, length-take-le}
use mir.Syntax.{w8}
use mir.Val.{Fits}
use Rattle.fields.specs.Elements.{xor, times_a}
use Rattle.fields.specs.Places.{at, every, all_below, horner}
use Rattle.fields.proofs.Lists.{tabulate_lt}
use Rattle.fields.proofs.Xor.{xor_shifted}
use Rattle.fields.proofs.Places.Tests.{every_false, below_at, below_all}
use Rattle.words.specs.Bits.{bit_of, number_of, bit_at}
use Rattle.words.specs.ReedSolomon.{parity_of, divided}
use Rattle.words.specs.OuterCode.{is_outer, generator, outer_parity}
use Rattle.words.specs.Steps.SixSymbols.{joined, joined_from, six, Packs, six_parity}
use Rattle.words.proofs.Bits.Bytes.{bit_at_lt, number_of_bits}
use Rattle.words.proofs.Bits.Numbers.{number_of_lt, number_of_same, number_parts}
use Rattle.words.proofs.Codes.Packing.{divided_same, joined_same, parity_joined}
use Rattle.words.proofs.Steps.Loops.{divided_up_to}
use Rattle.words.proofs.Steps.Joining.{register_high, packs_next, packs_remainder, outer_zero}
use Rattle.frames.specs.Frames.{symbol_at, data_in}
use Rattle.frames.specs.Correction.{received_bit, received_symbol, received_word}
use Rattle.frames.specs.Steps.Received.{divided_to, outer_codes}
use Rattle.frames.specs.Steps.Symbols.{number_at}
use Rattle.frames.proofs.Frames.FrameBits.{data_in_first, data_in_last, data_in_le, data_in_is}
use Rattle.frames.proofs.Numbers.Groups.{nine_are, number_bit}
use Rattle.frames.proofs.OuterSymbols.Received.{received_first, received_padding, received_last, received_length, received_at, received_lt, symbol_lt}

-- ---- symbols in nine bytes

then_four : (x s : ℕ) → x / 2 ^ s % 2 ^ 64 / 2 ^ 4 ≡ x / 2 ^ (s + 4) % 2 ^ 60
then_four x s = field (x / 2 ^ s) 60 4 ∙ ap (λ (y : ℕ). y % 2 ^ 60) (shr-shr x s 4)

low_parts : (a u p q : ℕ) → u < 2 ^ p → (a * 2 ^ p + u) % 2 ^ (q + p) ≡ a % 2 ^ q * 2 ^ p + u
low_parts a u p q h = mod-pow-add (a * 2 ^ p + u) q p ∙ ap₂ (λ (x y : ℕ). x % 2 ^ q * 2 ^ p + y) (high a p h) (low a p h)

-- eight bytes and the ninth, from an even bit on
nine_shifted : (a c p : ℕ) → c < 256 → p < 8 → p % 2 ≡ 0 → bit_or (a * 2 ^ p % 2 ^ 64) (c / 2 ^ (8 - p)) / 2 ^ 4 ≡ (a * 256 + c) / 2 ^ (72 - (p + 60)) % 2 ^ 60
nine_shifted a c zero h l even =
    let e : a * 2 ^ 0 % 2 ^ 64 ≡ a % 2 ^ 64 * 2 ^ 0 = omega arith in
    let f : (a * 256 + c) / 2 ^ 8 ≡ a * 2 ^ 0 + c / 2 ^ 8 = omega arith in
    let q : (a * 256 + c) / 2 ^ 8 % 2 ^ 64 ≡ a % 2 ^ 64 * 2 ^ 0 + c / 2 ^ 8 = ap (λ (x : ℕ). x % 2 ^ 64) f ∙ low_parts a (c / 2 ^ 8) 0 64 (omega arith) in
    rw (e, or_shifted (a % 2 ^ 64) 0 (c / 2 ^ 8) (omega arith), ← q) (then_four (a * 256 + c) 8)
nine_shifted a c (suc zero) h l even = absurd (omega arith)
nine_shifted a c (suc (suc zero)) h l even =
    let e : a * 2 ^ 2 % 2 ^ 64 ≡ a % 2 ^ 62 * 2 ^ 2 = omega arith in
    let f : (a * 256 + c) / 2 ^ 6 ≡ a * 2 ^ 2 + c / 2 ^ 6 = omega arith in
    let q : (a * 256 + c) / 2 ^ 6 % 2 ^ 64 ≡ a % 2 ^ 62 * 2 ^ 2 + c / 2 ^ 6 = ap (λ (x : ℕ). x % 2 ^ 64) f ∙ low_parts a (c / 2 ^ 6) 2 62 (omega arith) in
    rw (e, or_shifted (a % 2 ^ 62) 2 (c / 2 ^ 6) (omega arith), ← q) (then_four (a * 256 + c) 6)
nine_shifted a c (suc (suc (suc zero))) h l even = absurd (omega arith)
nine_shifted a c (suc (suc (suc (suc zero)))) h l even =
    let e : a * 2 ^ 4 % 2 ^ 64 ≡ a % 2 ^ 60 * 2 ^ 4 = omega arith in
    let f : (a * 256 + c) / 2 ^ 4 ≡ a * 2 ^ 4 + c / 2 ^ 4 = omega arith in
    let q : (a * 256 + c) / 2 ^ 4 % 2 ^ 64 ≡ a % 2 ^ 60 * 2 ^ 4 + c / 2 ^ 4 = ap (λ (x : ℕ). x % 2 ^ 64) f ∙ low_parts a (c / 2 ^ 4) 4 60 (omega arith) in
    rw (e, or_shifted (a % 2 ^ 60) 4 (c / 2 ^ 4) (omega arith), ← q) (then_four (a * 256 + c) 4)
nine_shifted a c (suc (suc (suc (suc (suc zero))))) h l even = absurd (omega arith)
nine_shifted a c (suc (suc (suc (suc (suc (suc zero)))))) h l even =
    let e : a * 2 ^ 6 % 2 ^ 64 ≡ a % 2 ^ 58 * 2 ^ 6 = omega arith in
    let f : (a * 256 + c) / 2 ^ 2 ≡ a * 2 ^ 6 + c / 2 ^ 2 = omega arith in
    let q : (a * 256 + c) / 2 ^ 2 % 2 ^ 64 ≡ a % 2 ^ 58 * 2 ^ 6 + c / 2 ^ 2 = ap (λ (x : ℕ). x % 2 ^ 64) f ∙ low_parts a (c / 2 ^ 2) 6 58 (omega arith) in
    rw (e, or_shifted (a % 2 ^ 58) 6 (c / 2 ^ 2) (omega arith), ← q) (then_four (a * 256 + c) 2)
nine_shifted a c (suc (suc (suc (suc (suc (suc (suc p))))))) h l even = absurd (omega arith)

-- the first of the bits that make a number
first_bits : (m k : ℕ) (b : ℕ → ℕ) → ((i : ℕ) → b i < 2) → number_of (m + k) b / 2 ^ k ≡ number_of m b
first_bits m k b bits =
    ap (λ (x : ℕ). x / 2 ^ k) (number_parts m k b) ∙ high (number_of m b) k (number_of_lt (λ j. b (m + j)) (λ j. bits (m + j)) k)

pub symbols_read : (bytes : List ℕ) (i n a : ℕ) → i % 2 ≡ 0 → n ≤ 6 → ((k : ℕ) → Fits w8 (get_or bytes k 0)) → a ≡ number_at 64 (bit_at bytes) (8 * (i / 8)) →
    bit_or (a * 2 ^ (i % 8) % 2 ^ 64) (get_or bytes (i / 8 + 8) 0 / 2 ^ (8 - i % 8)) / 2 ^ 4 / 2 ^ (10 * (6 - n)) ≡ number_at (10 * n) (bit_at bytes) i
unfolding number_at
symbols_read bytes i n a even few fits e =
    let c = get_or bytes (i / 8 + 8) 0 in
    let p = i % 8 in
    let whole : a * 256 + c ≡ number_at 72 (bit_at bytes) (8 * (i / 8)) = ap (λ (x : ℕ). x * 256 + c) e ∙ nine_are bytes (i / 8) fits in
    let sixty : bit_or (a * 2 ^ p % 2 ^ 64) (c / 2 ^ (8 - p)) / 2 ^ 4 ≡ number_of 60 (λ j. bit_at bytes (i + j)) =
    nine_shifted a c p (fits (i / 8 + 8)).fits (mod-lt i (lit< tt)) (omega arith) ∙ sym (number_of_bits 72 (a * 256 + c) p 60 (omega arith))
    ∙ number_of_same 60 _ _ (λ j l. ap (λ (x : ℕ). bit_of 72 x (p + j)) whole
    ∙ number_bit 72 (bit_at bytes) (bit_at_lt bytes) (8 * (i / 8)) (p + j) (omega arith) ∙ ap (bit_at bytes) (omega arith)) in
    let split : 60 ≡ 10 * n + 10 * (6 - n) = omega arith in
    ap (λ (x : ℕ). x / 2 ^ (10 * (6 - n))) (sixty ∙ ap (λ (k : ℕ). number_of k (λ j. bit_at bytes (i + j))) split)
    ∙ first_bits (10 * n) (10 * (6 - n)) (λ j. bit_at bytes (i + j)) (λ j. bit_at_lt bytes (i + j))

-- ---- symbols of an outer word

-- symbols that are joined are the number of their bits
joined_bits : (b : ℕ → ℕ) → ((i : ℕ) → b i < 2) → (f : ℕ → ℕ) (n : ℕ) → ((j : ℕ) → j < n → f j ≡ number_of 10 (λ m. b (10 * j + m))) →
    joined f n ≡ number_of (10 * n) b
unfolding joined horner number_of
joined_bits b bits f zero h = refl
joined_bits b bits f (suc n) h =
    let last : f n ≡ number_of 10 (λ m. b (10 * n + m)) = h n (le_refl (suc n)) in
    let small : f n < 2 ^ 10 = rw last (number_of_lt (λ m. b (10 * n + m)) (λ m. bits (10 * n + m)) 10) in
    let e : 10 * suc n ≡ 10 * n + 10 = omega arith in
    xor_shifted (joined f n) 10 (f n) small ∙ ap₂ (λ (x y : ℕ). x * 2 ^ 10 + y) (joined_bits b bits f n (λ j l. h j (omega arith))) last
    ∙ sym (ap (λ (k : ℕ). number_of k b) e ∙ number_parts (10 * n) 10 b)

module _ (bytes : List ℕ) (w : ℕ) where
  abbrev word : List ℕ
  word = received_word (bit_at bytes) w

  pub word_small : all_below 1024 (received_word (bit_at bytes) w) ≡ true
  unfolding received_word
  word_small =
      below_all 1024 _ (λ i l. tabulate_lt 1024 (data_in w + 16) (λ s. received_symbol (bit_at bytes) (781 * w + s)) (lit< tt)
      (λ s. symbol_lt (bit_at bytes) (bit_at_lt bytes) (781 * w + s)) i)

  word_joined : (i n : ℕ) → i + n ≤ data_in w + 16 → joined_from word i n ≡ number_of (10 * n) (λ j. received_bit (bit_at bytes) (10 * (781 * w + i) + j))
  unfolding joined_from received_symbol symbol_at
  word_joined i n room =
      joined_bits (λ j. received_bit (bit_at bytes) (10 * (781 * w + i) + j)) (λ j. received_lt (bit_at bytes) (bit_at_lt bytes) (10 * (781 * w + i) + j)) _ n
      (λ j l. received_at (bit_at bytes) w (i + j) (omega arith) ∙ number_of_same 10 _ _ (λ m k. ap (received_bit (bit_at bytes)) (omega arith)))

-- the size of a number of symbols, with its last two bits and without
module _ (bytes : List ℕ) (k n x : ℕ) (few : n ≤ 6) (e : x ≡ number_at (10 * n) (bit_at bytes) k) where
  pub symbols_lt : x < 2 ^ 60
  unfolding number_at
  symbols_lt =
      let le : 2 ^ (10 * n) ≤ 2 ^ 60 = pow_mono {i = 10 * n} {j = 60} (omega arith) in
      omega (arith, number_of_lt (λ j. bit_at bytes (k + j)) (λ j. bit_at_lt bytes (k + j)) (10 * n))

  pub cleared_lt : x / 2 ^ 2 * 2 ^ 2 % 2 ^ 64 < 2 ^ 60
  cleared_lt = omega (arith, symbols_lt)

module _ (bytes : List ℕ) (w : ℕ) (h : w < 16) where
  pub data_whole : (i n x : ℕ) → i + n ≤ data_in w → x ≡ number_at (10 * n) (bit_at bytes) (10 * (781 * w + i)) → (781 * w + i + n ≡ 12477 → ⊥) →
      x ≡ joined_from (received_word (bit_at bytes) w) i n
  unfolding number_at
  data_whole i n x within e before =
      e ∙ number_of_same (10 * n) _ _ (λ j l. sym (received_first (bit_at bytes) (10 * (781 * w + i) + j) (omega (arith, data_in_is w h))))
      ∙ sym (word_joined bytes w i n (omega arith))

  -- the symbols that end with the padding bits
  pub data_padded : (i n x : ℕ) → n ≤ 6 → i + n ≤ data_in w → x ≡ number_at (10 * n) (bit_at bytes) (10 * (781 * w + i)) → 781 * w + i + n ≡ 12477 →
      x / 2 ^ 2 * 2 ^ 2 % 2 ^ 64 ≡ joined_from (received_word (bit_at bytes) w) i n
  unfolding number_at number_of
  data_padded i zero x few within e last =
      let z : x ≡ 0 = e ∙ refl in
      omega (arith, z, word_joined bytes w i 0 (omega arith))
  data_padded i (suc m) x few within e last =
      let t = 10 * (781 * w + i) in
      let b = bit_at bytes in
      let k = 10 * m + 8 in
      let split : 10 * suc m ≡ k + 2 = omega arith in
      let lt = symbols_lt bytes t (suc m) x few e in
      let sent : x ≡ number_of k (λ j. b (t + j)) * 2 ^ 2 + number_of 2 (λ j. b (t + (k + j))) =
      e ∙ ap (λ (s : ℕ). number_of s (λ j. b (t + j))) split ∙ number_parts k 2 (λ j. b (t + j)) in
      let two : number_of 2 (λ j. b (t + (k + j))) < 2 ^ 2 = number_of_lt (λ j. b (t + (k + j))) (λ j. bit_at_lt bytes (t + (k + j))) 2 in
      let same : number_of k (λ j. b (t + j)) ≡ number_of k (λ j. received_bit b (t + j)) = number_of_same k _ _ (λ j l. sym (received_first b (t + j) (omega arith))) in
      let none : number_of 2 (λ j. received_bit b (t + (k + j))) ≡ 0 =
      number_of_same 2 _ (λ j. 0) (λ j l. received_padding b (t + (k + j)) (omega arith) (omega arith)) in
      let made : joined_from (received_word b w) i (suc m) ≡ number_of k (λ j. received_bit b (t + j)) * 2 ^ 2 + number_of 2 (λ j. received_bit b (t + (k + j))) =
      word_joined bytes w i (suc m) (omega arith) ∙ ap (λ (s : ℕ). number_of s (λ j. received_bit b (t + j))) split ∙ number_parts k 2 (λ j. received_bit b (t + j)) in
      omega (arith, two, same, none)

module _ (bytes : List ℕ) (w i n m x : ℕ) (within : i + n ≤ 16) (em : m ≡ data_in w) where
  pub parity_first : w < 15 → x ≡ number_at (10 * n) (bit_at bytes) (10 * (781 * w + m + i)) → x ≡ joined_from (received_word (bit_at bytes) w) (data_in w + i) n
  unfolding number_at
  parity_first h e =
      e ∙ number_of_same (10 * n) _ _ (λ j l. ap (bit_at bytes) (omega arith) ∙ sym (received_first (bit_at bytes) (10 * (781 * w + (data_in w + i)) + j) (omega (arith, data_in_le w))))
      ∙ sym (word_joined bytes w (data_in w + i) n (omega arith))

  pub parity_last : w < 16 → 15 ≤ w → x ≡ number_at (10 * n) (bit_at bytes) (10 * (781 * w + m + i) - 2) → x ≡ joined_from (received_word (bit_at bytes) w) (data_in w + i) n
  unfolding number_at
  parity_last h g e =
      e ∙ number_of_same (10 * n) _ _ (λ j l. ap (bit_at bytes) (omega arith)
      ∙ sym (received_last (bit_at bytes) (10 * (781 * w + (data_in w + i)) + j) (omega (arith, data_in_is w h))))
      ∙ sym (word_joined bytes w (data_in w + i) n (omega arith))

-- ---- the division of an outer word

module _ (bytes : List ℕ) (w h m l : ℕ) where
  abbrev d : List ℕ
  d = received_word (bit_at bytes) w

  pub division_first : (n x : ℕ) → n < 6 → x ≡ joined_from (received_word (bit_at bytes) w) 0 n → Packs h m l (six_parity x) → Packs h m l (divided_to (bit_at bytes) w n)
  unfolding divided_to joined_from
  division_first n x few ex p =
      let same : joined (λ j. at d (0 + j)) n ≡ joined (at d) n = joined_same (λ j. at d (0 + j)) (at d) n (λ j b. ap (at d) (omega arith)) in
      let e : six_parity x ≡ divided times_a 16 (at generator) (at d) n =
      ap six_parity (ex ∙ same) ∙ parity_joined (at d) (below_at 1024 d (lit< tt) (word_small bytes w)) n (omega arith) in
      rw e at p

  -- six symbols more
  module _ (i : ℕ) (so_far : Packs h m l (divided_to (bit_at bytes) w i)) where
    named : Packs h m l (divided_up_to d i)
    unfolding divided_to divided_up_to
    named = so_far

    pub division_high : h < 2 ^ 60
    division_high = register_high d h m l i named (word_small bytes w)

    pub division_next : (x a b c : ℕ) → x ≡ joined_from (received_word (bit_at bytes) w) i 6 → a ≡ xor m (six (six_parity (xor h x)) 0) → b ≡ xor l (six (six_parity (xor h x)) 6) →
        c ≡ six (six_parity (xor h x)) 12 → Packs a b c (divided_to (bit_at bytes) w (i + 6))
    unfolding divided_to divided_up_to
    division_next x a b c ex ea eb ec = packs_next d h m l i named (word_small bytes w) x a b c ex ea eb ec

  division_all : (i : ℕ) → i ≡ data_in w → Packs h m l (divided_to (bit_at bytes) w i) → Packs h m l (outer_parity (take (data_in w) (received_word (bit_at bytes) w)))
  unfolding divided_to parity_of
  division_all i e p =
      let long : length (take (data_in w) d) ≡ data_in w = length-take-le (data_in w) d (omega (arith, received_length (bit_at bytes) w)) in
      let same : divided times_a 16 (at generator) (at (take (data_in w) d)) (length (take (data_in w) d)) ≡ divided times_a 16 (at generator) (at d) i =
      ap (divided times_a 16 (at generator) (at (take (data_in w) d))) (long ∙ sym e)
      ∙ divided_same times_a 16 (at generator) (at (take (data_in w) d)) (at d) i (λ j b. get_or-take (data_in w) d j 0 (omega arith)) in
      rw (← same) at p

  pub division_tested : (x y z : ℕ) (r : Bool) → Packs h m l (divided_to (bit_at bytes) w (data_in w)) →
      x ≡ joined_from (received_word (bit_at bytes) w) (data_in w + 0) 6 → y ≡ joined_from (received_word (bit_at bytes) w) (data_in w + 6) 6 →
      z ≡ joined_from (received_word (bit_at bytes) w) (data_in w + 12) 4 →
      r ≡ eqb (bit_or (bit_or (bit_xor h x) (bit_xor m y)) (bit_xor l (z * 2 ^ 20 % 2 ^ 64))) 0 → r ≡ is_outer (received_word (bit_at bytes) w)
  unfolding xor
  division_tested x y z r q ex ey ez test =
      let p = division_all (data_in w) refl q in
      let long = received_length (bit_at bytes) w in
      let least : 16 ≤ length d = omega (arith, long) in
      let n : length d - 16 - 0 ≡ data_in w = omega (arith, long) in
      let n0 : length d - 16 ≡ data_in w + 0 = omega (arith, long) in
      let n6 : length d - 16 + 6 ≡ data_in w + 6 = omega (arith, long) in
      let n12 : length d - 16 + 12 ≡ data_in w + 12 = omega (arith, long) in
      test ∙ outer_zero d least (word_small bytes w) (bit_xor h x) (bit_xor m y) (bit_xor l (z * 2 ^ 20 % 2 ^ 64))
      (packs_remainder d least (word_small bytes w) h m l (bit_xor h x) (bit_xor m y) (bit_xor l (z * 2 ^ 20 % 2 ^ 64)) (rw n p) x y z (rw n0 ex) (rw n6 ey) (rw n12 ez) refl refl refl)
      (omega (arith, long, data_in_le w))

-- ---- one word after the other

-- the first w outer words are code words
unfoldable pub outer_up_to : (ℕ → ℕ) → ℕ → Bool
outer_up_to b w = every w (λ v. is_outer (received_word b v))

pub outer_none : (b : ℕ → ℕ) → outer_up_to b 0 ≡ true
unfolding outer_up_to every
outer_none b = refl

module _ (b : ℕ → ℕ) (w : ℕ) (before : outer_up_to b w ≡ true) where
  -- two words at a time
  pub two_not : (t : Bool) → t ≡ (is_outer (received_word b w) && is_outer (received_word b (w + 1))) → w + 1 < 16 → t ≡ false → false ≡ outer_codes b
  unfolding outer_codes
  two_not t test h f = go (is_outer (received_word b w)) refl (sym test ∙ f)
    where
      go : (s : Bool) → is_outer (received_word b w) ≡ s → (s && is_outer (received_word b (w + 1))) ≡ false → false ≡ every 16 (λ v. is_outer (received_word b v))
      go true e q = sym (every_false 16 (λ v. is_outer (received_word b v)) (w + 1) h q)
      go false e q = sym (every_false 16 (λ v. is_outer (received_word b v)) w (omega arith) e)

  pub two_next : (t : Bool) → t ≡ (is_outer (received_word b w) && is_outer (received_word b (w + 1))) → t ≡ true → (v : ℕ) → v ≡ w + 2 → outer_up_to b v ≡ true
  unfolding outer_up_to every
  two_next t test f v ev =
      let both = (and-eq-true_iff (is_outer (received_word b w)) (is_outer (received_word b (w + 1)))).0 (sym test ∙ f) in
      let e : v ≡ suc (w + 1) = omega arith in
      let d : w + 1 ≡ suc w = omega arith in
      rw (e, d) (rw (before, both.0) (rw d at both.1))

  -- the last two
  pub last_not : (t : Bool) → t ≡ is_outer (received_word b 14) → t ≡ false → false ≡ outer_codes b
  unfolding outer_codes
  last_not t test f = sym (every_false 16 (λ v. is_outer (received_word b v)) 14 (lit< tt) (sym test ∙ f))

  pub last_all : (s t : Bool) → s ≡ is_outer (received_word b 14) → s ≡ true → t ≡ is_outer (received_word b 15) → w ≤ 14 → 14 ≤ w → t ≡ outer_codes b
  unfolding outer_up_to outer_codes every
  last_all s t es f et l g =
      let e : w ≡ 14 = omega arith in
      let first : every 14 (λ v. is_outer (received_word b v)) ≡ true = rw e at before in
      rw (first, ← es, f) et

-- outer words have more than six data symbols each
pub data_more : (w n : ℕ) → w < 16 → n < 6 → 0 + n ≤ data_in w
data_more w n h l = go (dec_lt w 15)
  where
    go : Dec (w < 15) → 0 + n ≤ data_in w
    go (yes b) = omega (arith, data_in_first w b)
    go (no b) = omega (arith, data_in_last w (omega arith))

pub data_packs : (b : ℕ → ℕ) (w x y z : ℕ) → w < 15 → Packs x y z (divided_to b w 765) → Packs x y z (divided_to b w (data_in w))
data_packs b w x y z h p = let e = data_in_first w h in rw (← e) at p

pub division_at : (b : ℕ → ℕ) (w i j : ℕ) {x y z : ℕ} → i ≡ j → Packs x y z (divided_to b w i) → Packs x y z (divided_to b w j)
division_at b w i j e p = rw e at p
