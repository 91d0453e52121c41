-- The outer words of a received block: those of a frame are its own, and a block of code words is a frame. Assumes nothing.
use mathlib.Core.Path.{◌≡◌, refl, sym, ap, ◌∙◌, subst}
use mathlib.Core.Bool.{Bool, true, ◌&&◌, and-eq-true_iff}
use mathlib.Core.List.{List, [], ◌++◌}
use Prim.Native.Nat.{ℕ, ◌+◌, ◌-◌, ◌*◌, ◌/◌, ◌%◌, ◌≤◌, ◌<◌}
use native.Mathlib.Decide.{dec_lt}
use native.Mathlib.Omega.{arith}
use borrow.Author.Tests.{lt-ltb, le-ltb, eqb-true, eq-eqb}
use lib.Dec.{lit<}
use lib.ListN.{length, get_or}
use Rattle.fields.specs.Lists.{tabulate}
use Rattle.fields.specs.Places.{at, apart}
use Rattle.fields.proofs.Lists.{tabulate_at, tabulate_is, tabulate_length, tabulate_same, tabulate_append}
use Rattle.fields.proofs.Places.Tests.{tests_agree, every_at, every_true}
use Rattle.fields.proofs.Places.Differences.{apart_self, apart_none}
use Rattle.words.specs.Bits.{bit_of, number_of, bit_at}
use Rattle.words.specs.OuterCode.{is_outer, outer_parity}
use Rattle.words.specs.InnerCode.{is_inner, inner_parity}
use Rattle.words.specs.InnerWords.{inner_word, parity_place, with_parity}
use Rattle.words.proofs.Bits.Numbers.{bit_of_number, number_of_bits_lem, number_of_lt, number_of_same}
use Rattle.words.proofs.Bits.Bytes.{bit_at_lt, bytes_same}
use Rattle.words.proofs.Codes.OuterWords.{outer_is}
use Rattle.words.proofs.Codes.Proved.{codes}
use Rattle.inner_words.specs.Steps.Passes.{inner_codes}
use Rattle.inner_words.proofs.Interleaving.InterleavedBits.{data_same, code_places, parity_cases}
use Rattle.frames.specs.Frames.{symbol_at, is_block, data_in, outer_data, outer_word, outer_words, outer_bit, outer_place, sent_bit, frame_of_words, frame_of, payload_place, payload_of}
use Rattle.frames.specs.Answers.{is_frame}
use Rattle.frames.specs.Correction.{received_bit, received_symbol, received_word}
use Rattle.frames.specs.Steps.Received.{outer_codes}
use Rattle.frames.proofs.Frames.FrameBits.{block_is, payload_past, payload_of_length, payload_of_bit, frame_length, frame_data, frame_inner, data_in_last, data_in_le, data_in_is, outer_data_length, outer_word_length, outer_code, place_first, place_last, place_near, symbols_bit, payload_symbols}

-- ---- reading the outer symbols

pub received_first : (b : ℕ → ℕ) (r : ℕ) → r < 124768 → received_bit b r ≡ b r
unfolding received_bit
received_first b r l = rw (lt-ltb r 124768 l)

pub received_padding : (b : ℕ → ℕ) (r : ℕ) → 124768 ≤ r → r < 124770 → received_bit b r ≡ 0
unfolding received_bit
received_padding b r g l = rw (le-ltb r 124768 g, lt-ltb r 124770 l)

pub received_last : (b : ℕ → ℕ) (r : ℕ) → 124770 ≤ r → received_bit b r ≡ b (r - 2)
unfolding received_bit
received_last b r g = rw (le-ltb r 124768 (omega arith), le-ltb r 124770 g)

-- all three
pub received_cases : (P : ℕ → Type 0) (b : ℕ → ℕ) (r : ℕ) → (r < 124768 → P (b r)) → (124768 ≤ r → r < 124770 → P 0) →
    (124770 ≤ r → P (b (r - 2))) → P (received_bit b r)
received_cases P b r first padding last = go (dec_lt r 124768) (dec_lt r 124770)
  where
    go : Dec (r < 124768) → Dec (r < 124770) → P (received_bit b r)
    go (yes l) m = rw (received_first b r l) (first l)
    go (no g) (yes l) = let h : 124768 ≤ r = omega arith in rw (received_padding b r h l) (padding h l)
    go (no g) (no l) = let h : 124770 ≤ r = omega arith in rw (received_last b r h) (last h)

-- bit `outer_place i` of the outer symbols is bit i
received_place : (b : ℕ → ℕ) (i : ℕ) → received_bit b (outer_place i) ≡ b i
received_place b i = go (dec_lt i 124768)
  where
    go : Dec (i < 124768) → received_bit b (outer_place i) ≡ b i
    go (yes l) = rw (place_first i l) (received_first b i l)
    go (no g) = rw (place_last i (omega arith)) (received_last b (i + 2) (omega arith) ∙ ap b (omega arith))

-- a symbol of an outer word is an outer symbol
pub symbols_room : (w s : ℕ) → w < 16 → s < data_in w + 16 → 781 * w + s < 12493
symbols_room w s k l = omega (arith, data_in_is w k)

pub received_length : (b : ℕ → ℕ) (w : ℕ) → length (received_word b w) ≡ data_in w + 16
unfolding received_word
received_length b w = tabulate_length (data_in w + 16) _

pub received_at : (b : ℕ → ℕ) (w s : ℕ) → s < data_in w + 16 → at (received_word b w) s ≡ received_symbol b (781 * w + s)
unfolding received_word
received_at b w s l = tabulate_at (data_in w + 16) _ s 0 l

module _ (b : ℕ → ℕ) (bits : (i : ℕ) → b i < 2) where
  pub received_lt : (r : ℕ) → received_bit b r < 2
  received_lt r = received_cases (λ x. x < 2) b r (λ l. bits r) (λ g l. lit< tt) (λ g. bits (r - 2))

  pub symbol_lt : (t : ℕ) → received_symbol b t < 1024
  unfolding received_symbol symbol_at
  symbol_lt t = number_of_lt (λ j. received_bit b (10 * t + j)) (λ j. received_lt (10 * t + j)) 10

  pub symbol_bit_lem : (t j : ℕ) → j < 10 → bit_of 10 (received_symbol b t) j ≡ received_bit b (10 * t + j)
  unfolding received_symbol symbol_at
  symbol_bit_lem t j l = bit_of_number (λ j. received_bit b (10 * t + j)) (λ j. received_lt (10 * t + j)) 10 j l

  -- the outer symbols of the received words
  received_symbols_lem : (r : ℕ) → r < 124930 → outer_bit (tabulate 16 (received_word b)) r ≡ received_bit b r
  unfolding outer_bit
  received_symbols_lem r l =
      let w = r / 7810 in
      let s = r % 7810 / 10 in
      ap (λ (x : List ℕ). bit_of 10 (at x s) (r % 10)) (tabulate_at 16 (received_word b) w [] (omega arith))
      ∙ ap (λ (x : ℕ). bit_of 10 x (r % 10)) (received_at b w s (omega (arith, data_in_is w (omega arith)))) ∙ symbol_bit_lem (781 * w + s) (r % 10) (omega arith)
      ∙ ap (received_bit b) (omega arith)

-- ---- the words of a frame

-- sixteen outer words, with zeros for padding, that a frame was made of stand in it
module _ (ws : List (List ℕ)) (padding : (r : ℕ) → 124768 ≤ r → r < 124770 → outer_bit ws r ≡ 0) where
  frame_symbols : (r : ℕ) → r < 124930 → received_bit (bit_at (frame_of_words ws)) r ≡ outer_bit ws r
  unfolding sent_bit
  frame_symbols r l =
      received_cases (λ x. x ≡ outer_bit ws r) (bit_at (frame_of_words ws)) r (λ h. frame_data ws r (omega arith) ∙ ap (outer_bit ws) (place_first r h))
      (λ g h. sym (padding r g h)) (λ g. frame_data ws (r - 2) (omega arith) ∙ ap (outer_bit ws) (place_last (r - 2) (omega arith) ∙ omega arith))

  pub received_words : (w : ℕ) → w < 16 → length (get_or ws w []) ≡ data_in w + 16 → ((s : ℕ) → at (get_or ws w []) s < 1024) →
      received_word (bit_at (frame_of_words ws)) w ≡ get_or ws w []
  unfolding received_word received_symbol symbol_at
  received_words w k long small =
      sym (tabulate_is (data_in w + 16) _ (get_or ws w []) 0 long (λ s l.
      sym (number_of_same 10 _ (bit_of 10 (at (get_or ws w []) s)) (λ j m.
      frame_symbols (10 * (781 * w + s) + j) (omega (arith, symbols_room w s k l)) ∙ symbols_bit ws w s j (omega (arith, data_in_le w)) m)
      ∙ number_of_bits_lem 10 (at (get_or ws w []) s) (small s))))

-- the padding bits of a payload's words are bits past its end
pub payload_padding : (p : List ℕ) → length p ≡ 15296 → (r : ℕ) → 124768 ≤ r → r < 124770 → outer_bit (outer_words p) r ≡ 0
payload_padding p long r g l =
    let e : r ≡ 10 * (781 * 15 + 761) + r % 10 = omega arith in
    ap (outer_bit (outer_words p)) e ∙ payload_symbols p 15 761 (r % 10) (omega arith) (omega (arith, data_in_last 15 (omega arith))) (omega arith)
    ∙ payload_past p long (7650 * 15 + 10 * 761 + r % 10) (omega arith)

pub received_own : (p : List ℕ) → length p ≡ 15296 → (w : ℕ) → w < 16 → received_word (bit_at (frame_of p)) w ≡ outer_word p w
unfolding frame_of outer_words
received_own p long w k =
    let e : get_or (outer_words p) w [] ≡ outer_word p w = tabulate_at 16 (outer_word p) w [] k in
    received_words (outer_words p) (payload_padding p long) w k (rw e (outer_word_length p w)) (rw e (outer_is (outer_word p w) (outer_code p w)).symbols) ∙ e

-- ---- blocks of code words

module _ (b : List ℕ) where
  -- the data of a received word are those of the payload that stands in the block
  received_data : (w s : ℕ) → w < 16 → s < data_in w → number_of 10 (λ j. bit_at (payload_of b) (7650 * w + 10 * s + j)) ≡ received_symbol (bit_at b) (781 * w + s)
  unfolding received_symbol payload_place symbol_at
  received_data w s k l = number_of_same 10 _ _ (λ j m. go j m (10 * (781 * w + s) + j) refl (dec_lt (10 * (781 * w + s) + j) 124768))
    where
      go : (j : ℕ) → j < 10 → (r : ℕ) → r ≡ 10 * (781 * w + s) + j → Dec (r < 124768) → bit_at (payload_of b) (7650 * w + 10 * s + j) ≡ received_bit (bit_at b) r
      go j m r e (yes h) =
          payload_of_bit b (7650 * w + 10 * s + j) (omega (arith, data_in_le w)) ∙ ap (bit_at b) (omega (arith, data_in_le w)) ∙ sym (received_first (bit_at b) r h)
      go j m r e (no h) =
          let last : 15 ≤ w = omega (arith, data_in_le w) in
          payload_past (payload_of b) (payload_of_length b) (7650 * w + 10 * s + j) (omega (arith, data_in_last w last))
          ∙ sym (received_padding (bit_at b) r (omega arith) (omega (arith, data_in_last w last)))

  received_outer : (w : ℕ) → w < 16 → is_outer (received_word (bit_at b) w) ≡ true → outer_word (payload_of b) w ≡ received_word (bit_at b) w
  unfolding received_word outer_word outer_data symbol_at
  received_outer w k h =
      let d = outer_data (payload_of b) w in
      let q = tabulate 16 (λ s. received_symbol (bit_at b) (781 * w + (data_in w + s))) in
      let same : d ≡ tabulate (data_in w) (λ s. received_symbol (bit_at b) (781 * w + s)) = tabulate_same (data_in w) _ _ (λ s l. received_data w s k l) in
      let parts : d ++ q ≡ received_word (bit_at b) w = ap (λ (x : List ℕ). x ++ q) same ∙ tabulate_append (data_in w) 16 _ _ (λ s. refl) in
      let short : length d ≤ 1007 = omega (arith, outer_data_length (payload_of b) w, data_in_le w) in
      let parity : q ≡ outer_parity d = codes.outer_only d q short (tabulate_length 16 _) (ap is_outer parts ∙ h) in
      ap (λ (x : List ℕ). d ++ x) (sym parity) ∙ parts

  module _ (outer : (w : ℕ) → w < 16 → is_outer (received_word (bit_at b) w) ≡ true) (inner : (k : ℕ) → k < 64 → is_inner (inner_word (bit_at b) k) ≡ true) where
    sent_same : (i : ℕ) → i < 124928 → sent_bit (outer_words (payload_of b)) i ≡ bit_at b i
    unfolding sent_bit outer_words
    sent_same i l =
        ap (λ (ws : List (List ℕ)). outer_bit ws (outer_place i)) (tabulate_same 16 _ _ (λ w k. received_outer w k (outer w k)))
        ∙ received_symbols_lem (bit_at b) (bit_at_lt b) (outer_place i) (omega (arith, place_near i)) ∙ received_place (bit_at b) i

    bit_same : (i : ℕ) → i < 130560 → with_parity (sent_bit (outer_words (payload_of b))) i ≡ bit_at b i
    unfolding parity_place
    bit_same i l =
        parity_cases (λ x. x ≡ bit_at b i) (sent_bit (outer_words (payload_of b))) i (sent_same i)
        (λ h. ap (λ (d : List ℕ). at (inner_parity d) (i / 64 - 1952)) (data_same _ _ sent_same (i % 64) (omega arith))
        ∙ code_places (bit_at b) (i % 64) (inner (i % 64) (omega arith)) (i / 64 - 1952) (omega arith) ∙ ap (bit_at b) (omega arith))

pub code_words_frame : (b : List ℕ) → is_block b ≡ true → ((w : ℕ) → w < 16 → is_outer (received_word (bit_at b) w) ≡ true) →
    ((k : ℕ) → k < 64 → is_inner (inner_word (bit_at b) k) ≡ true) → frame_of (payload_of b) ≡ b
unfolding frame_of frame_of_words
code_words_frame b h outer inner =
    let t = block_is b h in
    bytes_same 16320 (with_parity (sent_bit (outer_words (payload_of b)))) b t.0 t.1 (bit_same b outer inner)

-- the test for frames: by definition, and by its words
pub frame_same : (b : List ℕ) → is_block b ≡ true → is_frame b ≡ true → frame_of (payload_of b) ≡ b
unfolding is_frame frame_of
frame_same b h t =
    apart_none (frame_of (payload_of b)) b (frame_length (outer_words (payload_of b)) ∙ sym (block_is b h).0) (eqb-true (apart (frame_of (payload_of b)) b) 0 t)

pub same_frame : (b : List ℕ) → frame_of (payload_of b) ≡ b → is_frame b ≡ true
unfolding is_frame
same_frame b e = eq-eqb (apart (frame_of (payload_of b)) b) 0 (ap (λ (f : List ℕ). apart f b) e ∙ apart_self b)

-- the sixteen outer words and the 64 inner words are code words
abbrev code_words : (ℕ → ℕ) → Bool
code_words b = outer_codes b && inner_codes b

own_words : (p : List ℕ) → length p ≡ 15296 → code_words (bit_at (frame_of p)) ≡ true
unfolding frame_of outer_codes inner_codes
own_words p long =
    (and-eq-true_iff _ _).1 (every_true 16 _ (λ w k. ap is_outer (received_own p long w k) ∙ outer_code p w), every_true 64 _ (frame_inner (outer_words p)))

pub is_frame_lem : (b : List ℕ) → is_block b ≡ true → is_frame b ≡ (outer_codes (bit_at b) && inner_codes (bit_at b))
unfolding outer_codes inner_codes
is_frame_lem b h =
    tests_agree (is_frame b) (code_words (bit_at b))
    (λ t. subst (λ (f : List ℕ). code_words (bit_at f) ≡ true) (frame_same b h t) (own_words (payload_of b) (payload_of_length b)))
    (λ t. let e = (and-eq-true_iff _ _).0 t in same_frame b (code_words_frame b h (every_at 16 _ e.0) (every_at 64 _ e.1)))
