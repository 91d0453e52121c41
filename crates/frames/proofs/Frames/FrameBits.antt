-- The bits of a frame: which are data and which are parity, its inner words, and the outer words of a payload. Assumes nothing.
use mathlib.Core.Path.{◌≡◌, sym, ap, ap₂, ◌∙◌}
use mathlib.Core.Bool.{true, and-eq-true_iff}
use mathlib.Core.List.{List, []}
use Prim.Native.Nat.{ℕ, ◌+◌, ◌-◌, ◌*◌, ◌/◌, ◌%◌, ◌≤◌, ◌<◌}
use native.Mathlib.Decide.{dec_lt}
use native.Mathlib.Omega.{arith}
use borrow.Author.Tests.{lt-ltb, le-ltb, eqb-true}
use lib.Dec.{eqb, lit<}
use lib.ListN.{length, get_or, length-append, get_or-append}
use Rattle.fields.specs.Lists.{tabulate}
use Rattle.fields.specs.Places.{at, all_below}
use Rattle.fields.proofs.Lists.{tabulate_at, tabulate_length, tabulate_lt}
use Rattle.fields.proofs.Places.Tests.{below_all}
use Rattle.words.specs.Bits.{bit_of, number_of, bit_at}
use Rattle.words.specs.OuterCode.{is_outer}
use Rattle.words.specs.InnerCode.{is_inner, inner_parity}
use Rattle.words.specs.InnerWords.{inner_data, inner_word, parity_place, with_parity}
use Rattle.words.proofs.Bits.Numbers.{bit_of_lt, bit_of_number, number_of_lt}
use Rattle.words.proofs.Bits.Bytes.{bit_at_lt, place_past, bytes_length, bytes_below, bytes_bit, bytes_same}
use Rattle.words.proofs.Codes.Proved.{codes}
use Rattle.inner_words.proofs.Interleaving.InterleavedBits.{data_same, places_code, parity_before, parity_after, with_parity_lt}
use Rattle.frames.specs.Frames.{symbol_at, is_payload, is_block, data_in, outer_data, outer_word, outer_words, outer_bit, outer_place, sent_bit, frame_of_words, frame_of, payload_place, payload_of}

pub payload_is : (p : List ℕ) → is_payload p ≡ true → (length p ≡ 15296) × (all_below 256 p ≡ true)
unfolding is_payload
payload_is p h = let b = (and-eq-true_iff (eqb (length p) 15296) (all_below 256 p)).0 h in (eqb-true (length p) 15296 b.0, b.1)

pub block_is : (b : List ℕ) → is_block b ≡ true → (length b ≡ 16320) × (all_below 256 b ≡ true)
unfolding is_block
block_is b h = let t = (and-eq-true_iff (eqb (length b) 16320) (all_below 256 b)).0 h in (eqb-true (length b) 16320 t.0, t.1)

-- past the payload's end a bit is 0
pub payload_past : (p : List ℕ) → length p ≡ 15296 → (i : ℕ) → 122368 ≤ i → bit_at p i ≡ 0
payload_past p long i h = sym (place_past p i (omega arith))

-- the payload that stands in a block
pub payload_of_length : (b : List ℕ) → length (payload_of b) ≡ 15296
unfolding payload_of
payload_of_length b = bytes_length 15296 _

pub payload_of_below : (b : List ℕ) → all_below 256 (payload_of b) ≡ true
unfolding payload_of
payload_of_below b = bytes_below 15296 _ (λ i. bit_at_lt b _)

pub payload_of_bit : (b : List ℕ) (i : ℕ) → i < 122368 → bit_at (payload_of b) i ≡ bit_at b (payload_place i)
unfolding payload_of
payload_of_bit b i l = bytes_bit 15296 (λ i. bit_at b (payload_place i)) (λ i. bit_at_lt b (payload_place i)) i l

-- ---- the frame of outer words

pub sent_bit_lt : (ws : List (List ℕ)) (i : ℕ) → sent_bit ws i < 2
unfolding sent_bit outer_bit
sent_bit_lt ws i = bit_of_lt 10 _ (outer_place i % 10)

module _ (ws : List (List ℕ)) where
  pub frame_length : length (frame_of_words ws) ≡ 16320
  unfolding frame_of_words
  frame_length = bytes_length 16320 (with_parity (sent_bit ws))

  frame_below : all_below 256 (frame_of_words ws) ≡ true
  unfolding frame_of_words
  frame_below = bytes_below 16320 (with_parity (sent_bit ws)) (with_parity_lt (sent_bit ws) (sent_bit_lt ws))

  pub frame_block : is_block (frame_of_words ws) ≡ true
  unfolding is_block
  frame_block = rw (frame_length, frame_below)

  pub frame_bit : (i : ℕ) → i < 130560 → bit_at (frame_of_words ws) i ≡ with_parity (sent_bit ws) i
  unfolding frame_of_words
  frame_bit i l = bytes_bit 16320 (with_parity (sent_bit ws)) (with_parity_lt (sent_bit ws) (sent_bit_lt ws)) i l

  pub frame_data : (i : ℕ) → i < 124928 → bit_at (frame_of_words ws) i ≡ sent_bit ws i
  frame_data i l = frame_bit i (omega arith) ∙ parity_before (sent_bit ws) i l

  pub frame_parity : (p k : ℕ) → p < 88 → k < 64 → bit_at (frame_of_words ws) (parity_place p k) ≡ at (inner_parity (inner_data (bit_at (frame_of_words ws)) k)) p
  unfolding parity_place
  frame_parity p k l m =
      let q : (124928 + 64 * p + k) % 64 ≡ k = omega arith in
      let r : (124928 + 64 * p + k) / 64 - 1952 ≡ p = omega arith in
      frame_bit (124928 + 64 * p + k) (omega arith) ∙ parity_after (sent_bit ws) (124928 + 64 * p + k) (omega arith)
      ∙ rw (q, r) (ap (λ (d : List ℕ). at (inner_parity d) p) (sym (data_same _ _ frame_data k m)))

  -- each inner word is its data with their parity bits, so a code word
  pub frame_inner : (k : ℕ) → k < 64 → is_inner (inner_word (bit_at (frame_of_words ws)) k) ≡ true
  frame_inner k m = places_code (bit_at (frame_of_words ws)) (bit_at_lt (frame_of_words ws)) k (λ p l. sym (frame_parity p k l m))

-- ---- outer words

pub data_in_first : (w : ℕ) → w < 15 → data_in w ≡ 765
unfolding data_in
data_in_first w l = rw (lt-ltb w 15 l)

pub data_in_last : (w : ℕ) → 15 ≤ w → data_in w ≡ 762
unfolding data_in
data_in_last w g = rw (le-ltb w 15 g)

pub data_in_le : (w : ℕ) → data_in w ≤ 765
data_in_le w = go (dec_lt w 15)
  where
    go : Dec (w < 15) → data_in w ≤ 765
    go (yes l) = omega (arith, data_in_first w l)
    go (no g) = omega (arith, data_in_last w (omega arith))

-- both numbers in one, for arithmetic
pub data_in_is : (w : ℕ) → w < 16 → data_in w + 3 * (w / 15) ≡ 765
data_in_is w h = go (dec_lt w 15)
  where
    go : Dec (w < 15) → data_in w + 3 * (w / 15) ≡ 765
    go (yes l) = omega (arith, data_in_first w l)
    go (no g) = omega (arith, data_in_last w (omega arith))

pub outer_data_length : (p : List ℕ) (w : ℕ) → length (outer_data p w) ≡ data_in w
unfolding outer_data symbol_at
outer_data_length p w = tabulate_length (data_in w) _

pub outer_word_length : (p : List ℕ) (w : ℕ) → length (outer_word p w) ≡ data_in w + 16
unfolding outer_word
outer_word_length p w = length-append (outer_data p w) _ ∙ ap₂ ◌+◌ (outer_data_length p w) (codes.outer_length (outer_data p w))

pub outer_data_at : (p : List ℕ) (w s : ℕ) → s < data_in w → at (outer_data p w) s ≡ number_of 10 (λ j. bit_at p (7650 * w + 10 * s + j))
unfolding outer_data symbol_at
outer_data_at p w s l = tabulate_at (data_in w) _ s 0 l

pub outer_data_below : (p : List ℕ) (w : ℕ) → all_below 1024 (outer_data p w) ≡ true
unfolding outer_data symbol_at
outer_data_below p w =
    below_all 1024 _ (λ i l. tabulate_lt 1024 (data_in w) _ (lit< tt) (λ s. number_of_lt (λ j. bit_at p (7650 * w + 10 * s + j)) (λ j. bit_at_lt p _) 10) i)

pub outer_code : (p : List ℕ) (w : ℕ) → is_outer (outer_word p w) ≡ true
unfolding outer_word
outer_code p w = codes.outer_made (outer_data p w) (outer_data_below p w)

-- a bit of data in an outer word is a payload bit
outer_bit_lem : (p : List ℕ) (w s j : ℕ) → s < data_in w → j < 10 → bit_of 10 (at (outer_word p w) s) j ≡ bit_at p (7650 * w + 10 * s + j)
unfolding outer_word
outer_bit_lem p w s j l m =
    ap (λ (x : ℕ). bit_of 10 x j) (get_or-append (outer_data p w) _ 0 s (omega (arith, outer_data_length p w)) ∙ outer_data_at p w s l)
    ∙ bit_of_number (λ j. bit_at p (7650 * w + 10 * s + j)) (λ j. bit_at_lt p (7650 * w + 10 * s + j)) 10 j m

-- ---- the outer symbols

pub place_first : (i : ℕ) → i < 124768 → outer_place i ≡ i
unfolding outer_place
place_first i l = rw (lt-ltb i 124768 l)

pub place_last : (i : ℕ) → 124768 ≤ i → outer_place i ≡ i + 2
unfolding outer_place
place_last i g = rw (le-ltb i 124768 g)

pub place_near : (i : ℕ) → (i ≤ outer_place i) × (outer_place i ≤ i + 2)
place_near i = go (dec_lt i 124768)
  where
    go : Dec (i < 124768) → (i ≤ outer_place i) × (outer_place i ≤ i + 2)
    go (yes l) = omega (arith, place_first i l)
    go (no l) = omega (arith, place_last i (omega arith))

-- symbol s of word w stands in the outer symbols from bit 10 (781 w + s) on
pub symbols_bit : (ws : List (List ℕ)) (w s j : ℕ) → s < 781 → j < 10 → outer_bit ws (10 * (781 * w + s) + j) ≡ bit_of 10 (at (get_or ws w []) s) j
unfolding outer_bit
symbols_bit ws w s j l m =
    let a : (10 * (781 * w + s) + j) / 7810 ≡ w = omega arith in
    let b : (10 * (781 * w + s) + j) % 7810 / 10 ≡ s = omega arith in
    let c : (10 * (781 * w + s) + j) % 10 ≡ j = omega arith in
    rw (a, b, c)

pub payload_symbols : (p : List ℕ) (w s j : ℕ) → w < 16 → s < data_in w → j < 10 → outer_bit (outer_words p) (10 * (781 * w + s) + j) ≡ bit_at p (7650 * w + 10 * s + j)
unfolding outer_words
payload_symbols p w s j k l m =
    symbols_bit (tabulate 16 (outer_word p)) w s j (omega (arith, data_in_le w)) m ∙ rw (tabulate_at 16 (outer_word p) w [] k) (outer_bit_lem p w s j l m)

-- ---- the payload in its frame

pub payload_bits : (p : List ℕ) (i : ℕ) → i < 122368 → bit_at (frame_of p) (payload_place i) ≡ bit_at p i
unfolding frame_of payload_place sent_bit
payload_bits p i l =
    let r = 7810 * (i / 7650) + i % 7650 in
    let e : r ≡ 10 * (781 * (i / 7650) + i % 7650 / 10) + i % 10 = omega arith in
    frame_data (outer_words p) r (omega arith) ∙ ap (outer_bit (outer_words p)) (place_first r (omega arith) ∙ e)
    ∙ payload_symbols p (i / 7650) (i % 7650 / 10) (i % 10) (omega arith) (fits (dec_lt (i / 7650) 15)) (omega arith) ∙ ap (bit_at p) (omega arith)
  where
    fits : Dec (i / 7650 < 15) → i % 7650 / 10 < data_in (i / 7650)
    fits (yes a) = omega (arith, data_in_first (i / 7650) a)
    fits (no a) = omega (arith, data_in_last (i / 7650) (omega arith))

pub payload_back : (p : List ℕ) → length p ≡ 15296 → all_below 256 p ≡ true → payload_of (frame_of p) ≡ p
unfolding payload_of
payload_back p long small = bytes_same 15296 (λ i. bit_at (frame_of p) (payload_place i)) p long small (payload_bits p)
