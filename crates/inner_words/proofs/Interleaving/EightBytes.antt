-- Eight bytes as a number, and a number as eight bytes. Assumes nothing.
use mathlib.Core.Path.{◌≡◌, refl, sym, ap, ap₂, ◌∙◌}
use mathlib.Core.List.{List}
use borrow.Author.Rules.{rules}
use borrow.Rule.Slice.PartMut.{put_mid}
use Rattle.std.specs.Int.{from_be_bytes, from_le_bytes, to_be_bytes, to_le_bytes, swap_bytes}
use Rattle.std.proofs.lemmas.List.{places}
use Prim.Native.Nat.{ℕ, zero, suc, ◌+◌, ◌-◌, ◌*◌, ◌/◌, ◌%◌, ◌^◌, ◌≤◌, ◌<◌}
use native.Mathlib.Omega.{arith}
use mathlib.Core.Bool.{cond}
use lib.Bits.{bit_and, bit_xor}
use lib.Dec.{eqb, lit<}
use lib.ListN.{length, get_or, set, take, drop}
use Rattle.std.proofs.Common.{get_or-take, get_or-drop}
use mir.Syntax.{w8, w64}
use mir.Val.{Fits}
use Rattle.fields.specs.Elements.{xor}
use Rattle.fields.specs.Lists.{tabulate}
use Rattle.fields.proofs.Lists.{tabulate_at, tabulate_is, tabulate_length}
use Rattle.fields.specs.Steps.Buffers.{Placed}
use Rattle.fields.proofs.Places.Filling.{Filled, filled_next}
use Rattle.lanes.specs.Steps.Sliced.{lane_bit, turned}
use Rattle.lanes.proofs.Sliced.{turned_lt, turned_twice}
use Rattle.words.specs.Bits.{bit_of, number_of, bit_at}
use Rattle.words.proofs.Bits.Bytes.{bit_at_lt, places_read, number_of_bits}
use Rattle.words.proofs.Bits.Numbers.{bit_of_lt, masked_bit, bit_of_number, number_of_same, number_parts}
use Rattle.inner_words.specs.Steps.BitSliced.{place_at, byte_of64}
use Rattle.inner_words.specs.Steps.InnerResidues.{swapped, loaded_at, difference_from}

-- ---- eight bytes as a number

no_bits : (bits : ℕ → ℕ) → number_of 0 bits ≡ 0
unfolding number_of
no_bits bits = refl

-- bits that are those of eight bytes, the first of them highest
made : (bits byte : ℕ → ℕ) (xs : List ℕ) → ((m : ℕ) → m < 8 → number_of 8 (λ j. bits (8 * m + j)) ≡ byte m) → ((m : ℕ) → m < 8 → get_or xs m 0 ≡ byte m) →
    from_be_bytes w64 xs ≡ number_of 64 bits
made bits byte xs bytes same =
    let next : (m : ℕ) → m < 8 → number_of (8 * m + 8) bits ≡ number_of (8 * m) bits * 256 + get_or xs m 0 =
    λ m h. number_parts (8 * m) 8 bits ∙ ap (λ (y : ℕ). number_of (8 * m) bits * 256 + y) (bytes m h ∙ sym (same m h)) in
    let first : number_of 0 bits ≡ 0 = no_bits bits in
    let e0 : number_of 8 bits ≡ number_of 0 bits * 256 + get_or xs 0 0 = next 0 (lit< tt) in
    let e1 : number_of 16 bits ≡ number_of 8 bits * 256 + get_or xs 1 0 = next 1 (lit< tt) in
    let e2 : number_of 24 bits ≡ number_of 16 bits * 256 + get_or xs 2 0 = next 2 (lit< tt) in
    let e3 : number_of 32 bits ≡ number_of 24 bits * 256 + get_or xs 3 0 = next 3 (lit< tt) in
    let e4 : number_of 40 bits ≡ number_of 32 bits * 256 + get_or xs 4 0 = next 4 (lit< tt) in
    let e5 : number_of 48 bits ≡ number_of 40 bits * 256 + get_or xs 5 0 = next 5 (lit< tt) in
    let e6 : number_of 56 bits ≡ number_of 48 bits * 256 + get_or xs 6 0 = next 6 (lit< tt) in
    let e7 : number_of 64 bits ≡ number_of 56 bits * 256 + get_or xs 7 0 = next 7 (lit< tt) in
    omega arith

-- place p of a list of bytes
module _ (bytes : List ℕ) (p : ℕ) (small : (i : ℕ) → Fits w8 (get_or bytes i 0)) where
  abbrev bits : ℕ → ℕ
  bits k = bit_at bytes (64 * p + k)

  byte_bits : (m : ℕ) → number_of 8 (λ j. bits (8 * m + j)) ≡ get_or bytes (8 * p + m) 0
  byte_bits m =
      let i = 64 * p + 8 * m in
      let q : i / 8 ≡ 8 * p + m = omega arith in
      let r : 8 - (i % 8 + 8) ≡ 0 = omega arith in
      number_of_same 8 _ _ (λ j h. ap (bit_at bytes) (omega arith)) ∙ places_read bytes i 8 (omega arith) ∙ rw (q, r) (omega (arith, small (8 * p + m)))

  part_at : (m : ℕ) → m < 8 → get_or (take (8 * p + 8 - 8 * p) (drop (8 * p) bytes)) m 0 ≡ get_or bytes (8 * p + m) 0
  part_at m h = let l : m < 8 * p + 8 - 8 * p = omega arith in rw (get_or-take, get_or-drop)

  pub place_made : (xs : List ℕ) → xs ≡ take (8 * p + 8 - 8 * p) (drop (8 * p) bytes) → from_be_bytes w64 xs ≡ place_at bytes p
  unfolding place_at
  place_made xs e = made bits (λ m. get_or bytes (8 * p + m) 0) xs (λ m h. byte_bits m) (λ m h. rw e (part_at m h))

  pub load_made : (xs : List ℕ) → xs ≡ take (8 * p + 8 - 8 * p) (drop (8 * p) bytes) → from_le_bytes w64 xs ≡ loaded_at bytes p
  unfolding loaded_at turned tabulate
  load_made xs e =
      let same : (m : ℕ) → m < 8 → get_or xs m 0 ≡ get_or bytes (8 * p + m) 0 = λ m h. rw e (part_at m h) in
      let swap : from_le_bytes w64 xs ≡ from_be_bytes w64 (tabulate 8 (λ m. get_or xs (7 - m) 0)) = omega arith in
      swap ∙ made (λ k. bit_at bytes (64 * p + (8 * (7 - k / 8) + k % 8))) (λ m. get_or xs (7 - m) 0) (tabulate 8 (λ m. get_or xs (7 - m) 0))
      (λ m h. number_of_same 8 _ (λ j. bits (8 * (7 - m) + j)) (λ j l. let q : (8 * m + j) / 8 ≡ m = omega arith in let r : (8 * m + j) % 8 ≡ j = omega arith in rw (q, r))
      ∙ byte_bits (7 - m) ∙ sym (same (7 - m) (omega arith)))
      (λ m h. tabulate_at 8 (λ m. get_or xs (7 - m) 0) m 0 h)

-- the bit of inner word k, tested
one_or_none : (b : ℕ) → b < 2 → ◌≡◌ {A = ℕ} (cond (eqb b 1) 1 0) b
one_or_none zero h = refl
one_or_none (suc zero) h = refl
one_or_none (suc (suc b)) h = absurd (omega arith)

pub bit_has : (x k : ℕ) → k < 64 → ◌≡◌ {A = ℕ} (cond (eqb (bit_and (x / 2 ^ (63 - k)) 1) 1) 1 0) (bit_of 64 x k)
bit_has x k h =
    ap {B = ℕ} (λ (b : ℕ). cond (eqb b 1) 1 0) (masked_bit 64 x k (63 - k) (omega arith)) ∙ one_or_none (bit_of 64 x k) (bit_of_lt 64 x k)

-- the bit of inner word k
lane_bit_lem : (k x : ℕ) → lane_bit k x ≡ bit_of 64 x k
unfolding lane_bit bit_of
lane_bit_lem k x = let e : 63 - k ≡ 64 - suc k = omega arith in rw e

pub loaded_bit : (bytes : List ℕ) (p k : ℕ) → k < 64 → lane_bit (turned k) (loaded_at bytes p) ≡ bit_at bytes (64 * p + k)
unfolding loaded_at
loaded_bit bytes p k l =
    lane_bit_lem (turned k) _ ∙ bit_of_number (λ k. bit_at bytes (64 * p + turned k)) (λ k. bit_at_lt bytes (64 * p + turned k)) 64 (turned k) (turned_lt k l)
    ∙ ap (λ (j : ℕ). bit_at bytes (64 * p + j)) (turned_twice k l)

-- where two blocks differ, in one place more
pub difference_next : (block frame out : List ℕ) (p q x y : ℕ) → Filled 8 (difference_from block frame p) q out → q < 8 → x ≡ loaded_at block (p + q) →
    y ≡ loaded_at frame (p + q) → Filled 8 (difference_from block frame p) (q + 1) (set out q (bit_xor x y))
unfolding difference_from xor
difference_next block frame out p q x y so_far l ex ey = filled_next so_far l (ap₂ bit_xor ex ey)

-- ---- the bytes of a number

byte_is : (x j : ℕ) → j < 8 → x / 2 ^ (56 - 8 * j) % 2 ^ 8 ≡ byte_of64 x j
unfolding byte_of64
byte_is x j h =
    let e : 56 - 8 * j ≡ 64 - (8 * j + 8) = omega arith in
    ap (λ (k : ℕ). x / 2 ^ k % 2 ^ 8) e ∙ sym (number_of_bits 64 x (8 * j) 8 (omega arith))

last_byte : (x : ℕ) → x % 256 ≡ byte_of64 x 7
last_byte x = omega (arith, byte_is x 7 (lit< tt))

pub bytes_made : (x : ℕ) → to_be_bytes w64 x ≡ tabulate 8 (byte_of64 x)
bytes_made x = tabulate_is 8 (byte_of64 x) (to_be_bytes w64 x) 0 refl each
  where
    each : (j : ℕ) → j < 8 → get_or (to_be_bytes w64 x) j 0 ≡ byte_of64 x j
    each zero h = byte_is x 0 h
    each (suc zero) h = byte_is x 1 h
    each (suc (suc zero)) h = byte_is x 2 h
    each (suc (suc (suc zero))) h = byte_is x 3 h
    each (suc (suc (suc (suc zero)))) h = byte_is x 4 h
    each (suc (suc (suc (suc (suc zero))))) h = byte_is x 5 h
    each (suc (suc (suc (suc (suc (suc zero)))))) h = byte_is x 6 h
    each (suc (suc (suc (suc (suc (suc (suc zero))))))) h = last_byte x
    each (suc (suc (suc (suc (suc (suc (suc (suc j)))))))) h = absurd (omega arith)

pub byte_bit : (x j i : ℕ) → i < 8 → bit_of 8 (byte_of64 x j) i ≡ bit_of 64 x (8 * j + i)
unfolding byte_of64
byte_bit x j i h = bit_of_number (λ i. bit_of 64 x (8 * j + i)) (λ i. bit_of_lt 64 x (8 * j + i)) 8 i h

unfold_byte : (x m : ℕ) → number_of 8 (λ j. bit_of 64 x (8 * m + j)) ≡ byte_of64 x m
unfolding byte_of64
unfold_byte x m = refl

-- the last byte first
pub swapped_made : (x : ℕ) → swap_bytes w64 x ≡ swapped x
unfolding swapped turned
swapped_made x =
    made (λ k. bit_of 64 x (8 * (7 - k / 8) + k % 8)) (λ m. byte_of64 x (7 - m)) (to_le_bytes w64 x)
    (λ m h. number_of_same 8 _ (λ j. bit_of 64 x (8 * (7 - m) + j)) (λ j l. let q : (8 * m + j) / 8 ≡ m = omega arith in let r : (8 * m + j) % 8 ≡ j = omega arith in rw (q, r)) ∙ unfold_byte x (7 - m))
    each
  where
    each : (m : ℕ) → m < 8 → get_or (to_le_bytes w64 x) m 0 ≡ byte_of64 x (7 - m)
    each zero h = last_byte x
    each (suc zero) h = byte_is x 6 (lit< tt)
    each (suc (suc zero)) h = byte_is x 5 (lit< tt)
    each (suc (suc (suc zero))) h = byte_is x 4 (lit< tt)
    each (suc (suc (suc (suc zero)))) h = byte_is x 3 (lit< tt)
    each (suc (suc (suc (suc (suc zero))))) h = byte_is x 2 (lit< tt)
    each (suc (suc (suc (suc (suc (suc zero)))))) h = byte_is x 1 (lit< tt)
    each (suc (suc (suc (suc (suc (suc (suc zero))))))) h = byte_is x 0 (lit< tt)
    each (suc (suc (suc (suc (suc (suc (suc (suc j)))))))) h = absurd (omega arith)

-- ---- a part of a buffer written

pub placed_mid : (i k : ℕ) (xs before : List ℕ) → length xs ≡ k → i + k ≤ length before → Placed i xs before (put_mid i k before xs)
placed_mid i k xs before e room =
    record {
      long = search (rules, places);
      inside = λ j h. search (rules, places);
      below = λ j h. search (rules, places);
      above = λ j h. search (rules, places);
    }

pub place_put : (before : List ℕ) (p x : ℕ) (xs : List ℕ) → p < 2040 → xs ≡ to_be_bytes w64 x → length before ≡ 16320 →
    Placed (8 * p) (tabulate 8 (byte_of64 x)) before (put_mid (8 * p) (8 * p + 8 - 8 * p) before xs)
place_put before p x xs h e long =
    let k : 8 * p + 8 - 8 * p ≡ 8 = omega arith in
    let q : xs ≡ tabulate 8 (byte_of64 x) = e ∙ bytes_made x in
    rw (q, k) (placed_mid (8 * p) 8 (tabulate 8 (byte_of64 x)) before (tabulate_length 8 (byte_of64 x)) (omega arith))
