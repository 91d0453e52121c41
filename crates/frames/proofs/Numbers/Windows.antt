-- Bits of a number that is made of parts: ten bits of three bytes, and eight bits of two symbols. Assumes nothing.
use mathlib.Core.Path.{◌≡◌, sym, ap, ◌∙◌}
use mathlib.Core.List.{List, [], ◌∷◌}
use Prim.Native.Nat.{ℕ, suc, ◌+◌, ◌-◌, ◌*◌, ◌/◌, ◌%◌, ◌^◌, ◌<◌}
use native.Mathlib.Decide.{dec_lt}
use native.Mathlib.Nat.{mod-lt}
use native.Mathlib.Omega.{arith}
use mir.Syntax.{w8, w32}
use mir.Val.{Fits}
use lib.Bits.{bit_and, and_mask}
use lib.ListN.{get_or}
use lib.Pow.{pow_pos, high, low, field, mod-mod-pow, shr-shr}
use Rattle.std.specs.Int.{from_be_bytes}
use Rattle.fields.specs.Places.{at}
use Rattle.words.specs.Bits.{bit_of, bit_at}
use Rattle.words.proofs.Bits.Numbers.{number_of_same}
use Rattle.words.proofs.Bits.Bytes.{number_of_bits}
use Rattle.frames.specs.Frames.{symbol_at}
use Rattle.frames.specs.Steps.Symbols.{byte_at, symbol_bit, symbol_byte}

-- the n low bits
bit_rest : (n x i : ℕ) → i < n → bit_of n (x % 2 ^ n) i ≡ bit_of n x i
unfolding bit_of
bit_rest n x i l =
    let k = n - suc i in
    let e : n ≡ i + 1 + k = omega arith in
    ap (λ (z : ℕ). x % 2 ^ z / 2 ^ k % 2) e ∙ ap (λ (z : ℕ). z % 2) (field x (i + 1) k) ∙ mod-mod-pow (x / 2 ^ k) i 1

-- the bits of m + n in which x stands before the n low bits of y
module _ (m n x y i : ℕ) where
  bit_first : i < m → bit_of (m + n) (x * 2 ^ n + y % 2 ^ n) i ≡ bit_of m x i
  unfolding bit_of
  bit_first l =
      let k = m - suc i in
      let z = x * 2 ^ n + y % 2 ^ n in
      let e : m + n - suc i ≡ n + k = omega arith in
      ap (λ (s : ℕ). z / 2 ^ s % 2) e ∙ ap (λ (s : ℕ). s % 2) (sym (shr-shr z n k))
      ∙ ap (λ (s : ℕ). s / 2 ^ k % 2) (high x n (mod-lt y (pow_pos n)))

  bit_second : i < n → bit_of (m + n) (x * 2 ^ n + y % 2 ^ n) (m + i) ≡ bit_of n y i
  unfolding bit_of
  bit_second l =
      let z = x * 2 ^ n + y % 2 ^ n in
      let e : m + n - suc (m + i) ≡ n - suc i = omega arith in
      ap (λ (s : ℕ). z / 2 ^ s % 2) e ∙ sym (bit_rest n z i l)
      ∙ ap (λ (s : ℕ). bit_of n s i) (low x n (mod-lt y (pow_pos n))) ∙ bit_rest n y i l

-- ---- ten bits of three bytes

module _ (bytes : List ℕ) (i a b c : ℕ) (ea : a ≡ at bytes (i / 8)) (eb : b ≡ at bytes (i / 8 + 1)) (ec : c ≡ at bytes (i / 8 + 2)) where
  three_bytes : (j : ℕ) → j < 10 → bit_of 24 ((a * 2 ^ 8 + b % 2 ^ 8) * 2 ^ 8 + c % 2 ^ 8) (i % 8 + j) ≡ bit_at bytes (i + j)
  unfolding bit_at
  three_bytes j l = go (dec_lt (i % 8 + j) 8) (dec_lt (i % 8 + j) 16)
    where
      go : Dec (i % 8 + j < 8) → Dec (i % 8 + j < 16) →
          bit_of 24 ((a * 2 ^ 8 + b % 2 ^ 8) * 2 ^ 8 + c % 2 ^ 8) (i % 8 + j) ≡ bit_of 8 (at bytes ((i + j) / 8)) ((i + j) % 8)
      go (yes h) _ =
          let q : (i + j) / 8 ≡ i / 8 = omega arith in
          let r : (i + j) % 8 ≡ i % 8 + j = omega arith in
          bit_first 16 8 (a * 2 ^ 8 + b % 2 ^ 8) c (i % 8 + j) (omega arith) ∙ bit_first 8 8 a b (i % 8 + j) h ∙ rw (ea, q, r)
      go (no g) (yes h) =
          let s = i % 8 + j - 8 in
          let e : i % 8 + j ≡ 8 + s = omega arith in
          let q : (i + j) / 8 ≡ i / 8 + 1 = omega arith in
          let r : (i + j) % 8 ≡ s = omega arith in
          bit_first 16 8 (a * 2 ^ 8 + b % 2 ^ 8) c (i % 8 + j) h ∙ rw (e, q, r, ← eb) (bit_second 8 8 a b s (omega arith))
      go (no g) (no h) =
          let s = i % 8 + j - 16 in
          let e : i % 8 + j ≡ 16 + s = omega arith in
          let q : (i + j) / 8 ≡ i / 8 + 2 = omega arith in
          let r : (i + j) % 8 ≡ s = omega arith in
          rw (e, q, r, ← ec) (bit_second 16 8 (a * 2 ^ 8 + b % 2 ^ 8) c s (omega arith))

  pub symbol_read : ((k : ℕ) → Fits w8 (get_or bytes k 0)) → (three : ℕ) → three ≡ from_be_bytes w32 (0 ∷ a ∷ b ∷ c ∷ []) →
      bit_and (three / 2 ^ (14 - i % 8)) 1023 ≡ symbol_at (bit_at bytes) i
  unfolding symbol_at
  symbol_read fits three et =
      let x = (a * 2 ^ 8 + b % 2 ^ 8) * 2 ^ 8 + c % 2 ^ 8 in
      let e : three ≡ x = omega (arith, fits (i / 8), fits (i / 8 + 1), fits (i / 8 + 2)) in
      let k : 14 - i % 8 ≡ 24 - (i % 8 + 10) = omega arith in
      rw (e, k) (and_mask (x / 2 ^ (24 - (i % 8 + 10))) 10 ∙ sym (number_of_bits 24 x (i % 8) 10 (omega arith)) ∙ number_of_same 10 _ _ three_bytes)

-- ---- eight bits of two symbols

pub byte_read : (x y i : ℕ) → i < 10 → x < 65536 → bit_and ((x * 2 ^ 10 % 2 ^ 32 + bit_and y 1023) / 2 ^ (12 - i)) 255 ≡ byte_at x y i
unfolding byte_at
byte_read x y i l h =
    let m : bit_and y 1023 ≡ y % 1024 = and_mask y 10 in
    let e : x * 2 ^ 10 % 2 ^ 32 + bit_and y 1023 ≡ 1024 * x + y % 1024 = omega (arith, m) in
    let k : 12 - i ≡ 20 - (i + 8) = omega arith in
    rw (e, k) (and_mask ((1024 * x + y % 1024) / 2 ^ (20 - (i + 8))) 8 ∙ sym (number_of_bits 20 (1024 * x + y % 1024) i 8 (omega arith)))

module _ (f : ℕ → ℕ) (r : ℕ) where
  two_symbols : (j : ℕ) → j < 8 → bit_of 20 (1024 * f (r / 10) + f (r / 10 + 1) % 1024) (r % 10 + j) ≡ symbol_bit f (r + j)
  unfolding symbol_bit
  two_symbols j l = rw e (go (dec_lt (r % 10 + j) 10))
    where
      e : 1024 * f (r / 10) + f (r / 10 + 1) % 1024 ≡ f (r / 10) * 2 ^ 10 + f (r / 10 + 1) % 2 ^ 10
      e = omega arith

      go : Dec (r % 10 + j < 10) → bit_of 20 (f (r / 10) * 2 ^ 10 + f (r / 10 + 1) % 2 ^ 10) (r % 10 + j) ≡ bit_of 10 (f ((r + j) / 10)) ((r + j) % 10)
      go (yes h) =
          let q : (r + j) / 10 ≡ r / 10 = omega arith in
          let s : (r + j) % 10 ≡ r % 10 + j = omega arith in
          rw (q, s) (bit_first 10 10 (f (r / 10)) (f (r / 10 + 1)) (r % 10 + j) h)
      go (no g) =
          let k = r % 10 + j - 10 in
          let p : r % 10 + j ≡ 10 + k = omega arith in
          let q : (r + j) / 10 ≡ r / 10 + 1 = omega arith in
          let s : (r + j) % 10 ≡ k = omega arith in
          rw (p, q, s) (bit_second 10 10 (f (r / 10)) (f (r / 10 + 1)) k (omega arith))

  pub byte_of_symbols : (x y b : ℕ) → x ≡ f (r / 10) → y ≡ f (r / 10 + 1) → b ≡ byte_at x y (r % 10) → b ≡ symbol_byte f r
  unfolding byte_at symbol_byte
  byte_of_symbols x y b ex ey e = e ∙ rw (ex, ey) (number_of_same 8 _ _ two_symbols)
