-- Bits of numbers and of bytes, and the numbers that bits make. Assumes nothing.
use mathlib.Core.Path.{◌≡◌, sym, ap, ◌∙◌}
use mathlib.Core.Bool.{true}
use mathlib.Core.List.{List}
use Prim.Native.Nat.{ℕ, zero, suc, ◌+◌, ◌-◌, ◌*◌, ◌/◌, ◌%◌, ◌^◌, ◌≤◌, ◌<◌}
use native.Mathlib.Decide.{dec_lt}
use native.Mathlib.Nat.{zero-div}
use native.Mathlib.Numerals.{add-one}
use native.Mathlib.Omega.{arith}
use lib.Bits.{bit_and, and_mask, mask_lt}
use lib.ListN.{length, get_or, get_or-eq_default}
use lib.Pow.{field, mod-mod-pow, shr-shr}
use Rattle.fields.specs.Lists.{tabulate}
use Rattle.fields.specs.Places.{at, all_below}
use Rattle.fields.proofs.Lists.{tabulate_at, tabulate_is, tabulate_length, tabulate_lt, tabulate_same}
use Rattle.fields.proofs.Places.Tests.{below_all, below_at}
use Rattle.fields.proofs.Places.Filling.{Filled, filled_end}
use Rattle.words.specs.Bits.{bit_of, number_of, bit_at, bits_of, bytes_of}
use Rattle.words.proofs.Bits.Numbers.{bit_of_lt, bit_of_zero, number_of_same, number_of_bits_lem, bit_of_number, number_of_lt}
use lib.Dec.{lit<}

pub bit_at_lt : (bytes : List ℕ) (i : ℕ) → bit_at bytes i < 2
unfolding bit_at
bit_at_lt bytes i = bit_of_lt 8 (at bytes (i / 8)) (i % 8)

-- n of the bits of a number, from place s on, make a part of it
pub number_of_bits : (m x s n : ℕ) → s + n ≤ m → number_of n (λ j. bit_of m x (s + j)) ≡ x / 2 ^ (m - (s + n)) % 2 ^ n
unfolding number_of bit_of
number_of_bits m x s zero h = omega arith
number_of_bits m x s (suc n) h =
    let k = m - (s + suc n) in
    let y = x / 2 ^ k in
    let e : m - (s + n) ≡ k + 1 = omega arith in
    let f : m - suc (s + n) ≡ k = omega arith in
    let up : y / 2 % 2 ^ n ≡ x / 2 ^ (m - (s + n)) % 2 ^ n = ap (λ (z : ℕ). z % 2 ^ n) (shr-shr x k 1 ∙ ap (λ (z : ℕ). x / 2 ^ z) (sym e)) in
    let low : y % 2 ≡ x / 2 ^ (m - suc (s + n)) % 2 = ap (λ (z : ℕ). x / 2 ^ z % 2) (sym f) in
    let high : y % 2 ^ (n + 1) / 2 ≡ y / 2 % 2 ^ n = field y n 1 in
    let last : y % 2 ^ (n + 1) % 2 ≡ y % 2 = mod-mod-pow y n 1 in
    let all : y % 2 ^ (n + 1) ≡ y % 2 ^ suc n = ap (λ (z : ℕ). y % 2 ^ z) (add-one n) in
    omega (arith, number_of_bits m x s n (omega arith))

-- past the end of the bytes a bit is 0
pub place_past : (bytes : List ℕ) (i : ℕ) → length bytes ≤ i / 8 → 0 ≡ bit_at bytes i
unfolding bit_at
place_past bytes i h = sym (rw (get_or-eq_default bytes 0 {n = i / 8} h) (bit_of_zero 8 (i % 8)))

-- the places of the bits of bytes
pub bits_length : (bytes : List ℕ) → length (bits_of bytes) ≡ 8 * length bytes
unfolding bits_of
bits_length bytes = tabulate_length (8 * length bytes) (bit_at bytes)

pub bits_at : (bytes : List ℕ) (i : ℕ) → at (bits_of bytes) i ≡ bit_at bytes i
unfolding bits_of
bits_at bytes i = go (dec_lt i (8 * length bytes))
  where
    go : Dec (i < 8 * length bytes) → get_or (tabulate (8 * length bytes) (bit_at bytes)) i 0 ≡ bit_at bytes i
    go (yes h) = tabulate_at (8 * length bytes) (bit_at bytes) i 0 h
    go (no h) =
        get_or-eq_default (tabulate (8 * length bytes) (bit_at bytes)) 0 {n = i} (rw (tabulate_length (8 * length bytes) (bit_at bytes)) (omega arith))
        ∙ place_past bytes i (omega arith)

pub bits_below : (bytes : List ℕ) → all_below 2 (bits_of bytes) ≡ true
bits_below bytes = below_all 2 (bits_of bytes) (λ i l. rw (bits_at bytes i) (bit_at_lt bytes i))

-- n places of one byte, from place i on, make a part of it
pub places_read : (bytes : List ℕ) (i n : ℕ) → i % 8 + n ≤ 8 → number_of n (λ j. bit_at bytes (i + j)) ≡ at bytes (i / 8) / 2 ^ (8 - (i % 8 + n)) % 2 ^ n
unfolding bit_at
places_read bytes i n h = number_of_same n _ _ place ∙ number_of_bits 8 (at bytes (i / 8)) (i % 8) n h
  where
    place : (j : ℕ) → j < n → bit_of 8 (at bytes ((i + j) / 8)) ((i + j) % 8) ≡ bit_of 8 (at bytes (i / 8)) (i % 8 + j)
    place j l =
        let q : (i + j) / 8 ≡ i / 8 = omega arith in
        let r : (i + j) % 8 ≡ i % 8 + j = omega arith in
        rw (q, r)

-- four places, half a byte: by a shift and a mask; past the end they are 0
module _ (bytes : List ℕ) (i : ℕ) where
  half : number_of 4 (λ j. bit_at bytes (4 * i + j)) ≡ at bytes (i / 2) / 2 ^ (4 - 4 * (i % 2)) % 2 ^ 4
  half =
      let q : 4 * i / 8 ≡ i / 2 = omega arith in
      let r : 4 * i % 8 ≡ 4 * (i % 2) = omega arith in
      let e : 8 - (4 * (i % 2) + 4) ≡ 4 - 4 * (i % 2) = omega arith in
      rw (q, r, e) at (places_read bytes (4 * i) 4 (omega arith))

  pub half_read : bit_and (get_or bytes (i / 2) 0 / 2 ^ (4 - 4 * (i % 2))) 15 ≡ number_of 4 (λ j. bit_at bytes (4 * i + j))
  half_read = and_mask (get_or bytes (i / 2) 0 / 2 ^ (4 - 4 * (i % 2))) 4 ∙ sym half

  pub half_past : length bytes ≤ i / 2 → 0 ≡ number_of 4 (λ j. bit_at bytes (4 * i + j))
  half_past h = sym (half ∙ rw (get_or-eq_default bytes 0 {n = i / 2} h, zero-div))

pub half_lt : (x : ℕ) → bit_and x 15 < 16
half_lt x = mask_lt x 4

-- bytes stored one after the other
pub bytes_end : (n : ℕ) (b : ℕ → ℕ) (k : ℕ) (out : List ℕ) → Filled n (λ i. number_of 8 (λ j. b (8 * i + j))) k out → n ≤ k → out ≡ bytes_of n b
unfolding bytes_of
bytes_end n b k out h l = filled_end h l

-- the bits of bytes make these bytes
pub bytes_again : (n : ℕ) (bytes : List ℕ) → length bytes ≡ n → ((k : ℕ) → at bytes k < 256) → bytes ≡ bytes_of n (at (bits_of bytes))
unfolding bytes_of bit_at
bytes_again n bytes long small =
    tabulate_is n _ bytes 0 long (λ k l. sym (number_of_same 8 _ (bit_of 8 (at bytes k)) (λ j h. bits_at bytes (8 * k + j) ∙ within k j h) ∙ number_of_bits_lem 8 (at bytes k) (small k)))
  where
    within : (k j : ℕ) → j < 8 → bit_of 8 (at bytes ((8 * k + j) / 8)) ((8 * k + j) % 8) ≡ bit_of 8 (at bytes k) j
    within k j h =
        let q : (8 * k + j) / 8 ≡ k = omega arith in
        let r : (8 * k + j) % 8 ≡ j = omega arith in
        rw (q, r)

module _ (n : ℕ) (b : ℕ → ℕ) where
  pub bytes_length : length (bytes_of n b) ≡ n
  unfolding bytes_of
  bytes_length = tabulate_length n (λ k. number_of 8 (λ j. b (8 * k + j)))

  module _ (bits : (i : ℕ) → b i < 2) where
    pub bytes_below : all_below 256 (bytes_of n b) ≡ true
    unfolding bytes_of
    bytes_below = below_all 256 _ (λ i l. tabulate_lt 256 n _ (lit< tt) (λ k. number_of_lt (λ j. b (8 * k + j)) (λ j. bits (8 * k + j)) 8) i)

    pub bytes_bit : (i : ℕ) → i < 8 * n → bit_at (bytes_of n b) i ≡ b i
    unfolding bit_at bytes_of
    bytes_bit i l =
        ap (λ (x : ℕ). bit_of 8 x (i % 8)) (tabulate_at n (λ k. number_of 8 (λ j. b (8 * k + j))) (i / 8) 0 (omega arith))
        ∙ bit_of_number (λ j. b (8 * (i / 8) + j)) (λ j. bits (8 * (i / 8) + j)) 8 (i % 8) (omega arith) ∙ ap b (omega arith)

  -- bytes are known by their bits
  pub bits_same : (c : ℕ → ℕ) → ((i : ℕ) → i < 8 * n → b i ≡ c i) → bytes_of n b ≡ bytes_of n c
  unfolding bytes_of
  bits_same c same = tabulate_same n _ _ (λ k l. number_of_same 8 _ _ (λ j h. same (8 * k + j) (omega arith)))

  pub bytes_same : (bytes : List ℕ) → length bytes ≡ n → all_below 256 bytes ≡ true → ((i : ℕ) → i < 8 * n → b i ≡ bit_at bytes i) → bytes_of n b ≡ bytes
  bytes_same bytes long small same =
      bits_same _ (λ i l. same i l ∙ sym (bits_at bytes i)) ∙ sym (bytes_again n bytes long (below_at 256 bytes (lit< tt) small))
