-- The outer words among the outer symbols: stored one after the other, tested, and sent. Assumes nothing.
use mathlib.Core.Path.{◌≡◌, sym, ap, ◌∙◌, subst}
use mathlib.Core.Bool.{Bool, true}
use mathlib.Core.List.{List, [], ◌++◌}
use Prim.Native.Nat.{ℕ, ◌+◌, ◌*◌, ◌/◌, ◌%◌, ◌≤◌, ◌<◌}
use native.Mathlib.Decide.{ℕ_discrete}
use native.Mathlib.Nat.{not-suc-le-zero}
use native.Mathlib.Omega.{arith}
use borrow.Rule.Slice.PartMut.{put_mid}
use lib.Bits.{bit_or}
use lib.Dec.{eqb, lit<}
use lib.ListN.{length, take, drop, length-drop}
use lib.Seq.{get_or-take, get_or-drop, length-take-le}
use Rattle.fields.specs.Lists.{tabulate}
use Rattle.fields.specs.Places.{at, all_below}
use Rattle.fields.specs.Steps.Buffers.{Placed}
use Rattle.fields.proofs.Lists.{tabulate_at, tabulate_is, tabulate_length, tabulate_lt, tabulate_same}
use Rattle.fields.proofs.Places.Tests.{below_all}
use Rattle.std.proofs.lemmas.List.{take_at}
use Rattle.words.specs.Bits.{bit_of, bit_at, bytes_of}
use Rattle.words.specs.OuterCode.{is_outer, outer_parity}
use Rattle.words.specs.Steps.Division.{outer_remainder}
use Rattle.words.specs.Steps.SixSymbols.{Packs}
use Rattle.words.proofs.Bits.Bytes.{bit_at_lt, bits_same}
use Rattle.words.proofs.Codes.Proved.{codes}
use Rattle.words.proofs.Steps.Joining.{outer_zero}
use Rattle.frames.specs.Frames.{symbol_at, data_in, outer_data, outer_word, outer_words, outer_bit, outer_place, sent_bit, payload_place, payload_of}
use Rattle.frames.specs.Correction.{received_symbol, received_word}
use Rattle.frames.specs.Steps.Received.{received_symbols}
use Rattle.frames.specs.Steps.Symbols.{number_at, parts_of, part_from, Concatenated, word_in, symbol_bit, symbol_byte, data_place, data_symbol, payload_byte, payload_in}
use Rattle.frames.proofs.Numbers.Slices.{placed_slice, two_slices}
use Rattle.frames.proofs.Numbers.Parts.{part_length, part_at}
use Rattle.frames.proofs.Frames.FrameBits.{data_in_le, data_in_is, outer_data_length, outer_word_length, outer_data_below, place_near}
use Rattle.frames.proofs.OuterSymbols.Received.{received_first, symbol_lt, symbol_bit_lem}

-- a part of a list, place by place
part_places : (i n : ℕ) (l : List ℕ) → i + n ≤ length l → take n (drop i l) ≡ tabulate n (λ j. at l (i + j))
part_places i n l room =
    tabulate_is n (λ j. at l (i + j)) (take n (drop i l)) 0 (length-take-le n (drop i l) (omega (arith, length-drop i l)))
    (λ j h. get_or-take n (drop i l) j 0 h ∙ get_or-drop i l j 0)

-- ---- the words of a payload, stored

-- once its data symbols are written, they are divided, and the register is written after them
module _ (payload before : List ℕ) (w n r : ℕ) {symbols : List ℕ} (e : n ≡ data_in w) (long : length before ≡ data_in w + 16)
    (p : symbols ≡ parts_of 10 r (bit_at payload) (7650 * w)) (er : r ≡ n) where
  data_made : symbols ≡ outer_data payload w
  unfolding outer_data symbol_at parts_of number_at
  data_made = p ∙ ap (λ (x : ℕ). parts_of 10 x (bit_at payload) (7650 * w)) (er ∙ e)

  data_long : length symbols ≡ n
  data_long = ap length data_made ∙ outer_data_length payload w ∙ sym e

  pub data_is : take n (symbols ++ drop n before) ≡ outer_data payload w
  data_is = take_at symbols (drop n before) n data_long ∙ data_made

  pub data_below : all_below 1024 (take n (symbols ++ drop n before)) ≡ true
  data_below = rw data_is (outer_data_below payload w)

  pub word_written : (s : ℕ) {cells part : List ℕ} → cells ≡ outer_parity (take n (symbols ++ drop n before)) → part ≡ cells → s ≡ 16 →
      put_mid n s (symbols ++ drop n before) part ≡ outer_word payload w
  unfolding outer_word
  word_written s {cells} {part} c q es =
      let parity : part ≡ outer_parity (outer_data payload w) = q ∙ c ∙ ap outer_parity data_is in
      let sixteen : length part ≡ s = ap length parity ∙ codes.outer_length (outer_data payload w) ∙ sym es in
      two_slices before symbols part n s data_long sixteen (omega arith) ∙ rw (data_made, parity)

-- the invariant: the first w words stand in the outer symbols
pub record Written (payload : List ℕ) (w : ℕ) (outer : List ℕ) : Type 0 where
  pub long : length outer ≡ 12496
  pub within : w ≤ 16
  pub place : (v s : ℕ) → v < w → s < data_in v + 16 → at outer (781 * v + s) ≡ at (outer_word payload v) s

pub written_none : {payload outer : List ℕ} → length outer ≡ 12496 → Written payload 0 outer
written_none e = record { long = e; within = omega arith; place = λ v s h. absurd (not-suc-le-zero h) }

pub written_next : {payload : List ℕ} {w : ℕ} (n : ℕ) {outer word : List ℕ} → Written payload w outer → w < 16 → n ≡ data_in w + 16 → word ≡ outer_word payload w →
    Written payload (w + 1) (put_mid (781 * w) n outer word)
written_next {payload} {w} n {outer} {word} r h en e =
    record { long = p.long ∙ r.long; within = omega arith; place = λ v s k l. go v s k l (ℕ_discrete v w) }
  where
    after : List ℕ
    after = put_mid (781 * w) n outer word

    there : Placed (781 * w) word outer after
    there = placed_slice (781 * w) n word outer (ap length e ∙ outer_word_length payload w ∙ sym en) (omega (arith, r.long, data_in_le w))

    p : Placed (781 * w) (outer_word payload w) outer after
    p = subst (λ (xs : List ℕ). Placed (781 * w) xs outer after) e there

    go : (v s : ℕ) → v < w + 1 → s < data_in v + 16 → Dec (v ≡ w) → at after (781 * v + s) ≡ at (outer_word payload v) s
    go v s k l (yes e) = rw e (p.inside s (omega (arith, outer_word_length payload w, ap data_in e)))
    go v s k l (no e) = p.below (781 * v + s) (omega (arith, data_in_le v)) ∙ r.place v s (omega arith) l

pub written_all : {payload : List ℕ} {w : ℕ} {outer : List ℕ} → Written payload w outer → 16 ≤ w → Concatenated (outer_words payload) outer
unfolding outer_words
written_all {payload} {w} {outer} r h =
    record { long = r.long; place = λ v s k l. r.place v s (omega arith) l ∙ sym (ap (λ (x : List ℕ). at x s) (tabulate_at 16 (outer_word payload) v [] k)) }

-- ---- the words in outer symbols

pub symbols_word_part : (outer : List ℕ) (w n : ℕ) → length outer ≡ 12496 → w < 16 → n ≡ data_in w + 16 → take n (drop (781 * w) outer) ≡ word_in outer w
unfolding word_in
symbols_word_part outer w n long h e =
    part_places (781 * w) n outer (omega (arith, data_in_le w)) ∙ ap (λ (m : ℕ). tabulate m (λ s. at outer (781 * w + s))) e

-- a remainder of zeros is that of a code word
pub code_tested : (w : ℕ) (u : List ℕ) → length u ≡ data_in w + 16 → all_below 1024 u ≡ true → (x y z : ℕ) → Packs x y z (outer_remainder u) →
    (t : Bool) → t ≡ eqb (bit_or (bit_or x y) z) 0 → t ≡ is_outer u
code_tested w u long below x y z p t test = test ∙ outer_zero u (omega arith) below x y z p (omega (arith, data_in_le w))

-- ---- the words of a block, stored

pub word_length : (outer : List ℕ) (w : ℕ) → length (word_in outer w) ≡ data_in w + 16
unfolding word_in
word_length outer w = tabulate_length (data_in w + 16) _

module _ (b : ℕ → ℕ) (w : ℕ) {before outer : List ℕ} (p : Placed (781 * w) (part_from (received_symbol b) (781 * w) 781) before outer) where
  pub received_word_lem : word_in outer w ≡ received_word b w
  unfolding word_in received_word
  received_word_lem =
      let f = received_symbol b in
      tabulate_same (data_in w + 16) _ _ (λ s l. p.inside s (omega (arith, part_length f (781 * w) 781, data_in_le w)) ∙ part_at f (781 * w) 781 s (omega (arith, data_in_le w)))

  pub word_before : (v : ℕ) → v < w → word_in outer v ≡ word_in before v
  unfolding word_in
  word_before v l = tabulate_same (data_in v + 16) _ _ (λ s h. p.below (781 * v + s) (omega (arith, data_in_le v)))

pub received_below : (bytes : List ℕ) (w : ℕ) → all_below 1024 (received_word (bit_at bytes) w) ≡ true
unfolding received_word
received_below bytes w =
    below_all 1024 _ (λ i l. tabulate_lt 1024 (data_in w + 16) _ (lit< tt) (λ s. symbol_lt (bit_at bytes) (bit_at_lt bytes) (781 * w + s)) i)

-- ---- bits of the outer symbols

-- what is sent of the words in outer symbols
pub symbols_sent : (words : List (List ℕ)) (outer : List ℕ) → Concatenated words outer → (i : ℕ) → i < 124928 → symbol_bit (at outer) (outer_place i) ≡ sent_bit words i
unfolding symbol_bit sent_bit outer_bit
symbols_sent words outer r i h =
    let p = outer_place i in
    let e : p / 10 ≡ 781 * (p / 7810) + p % 7810 / 10 = omega arith in
    let near : p < 124930 = omega (arith, place_near i) in
    let w : p / 7810 < 16 = omega arith in
    ap (λ (x : ℕ). bit_of 10 x (p % 10)) (ap (at outer) e ∙ r.place (p / 7810) (p % 7810 / 10) w (omega (arith, data_in_is (p / 7810) w)))

-- the payload in received outer symbols is the block's
pub received_payload : (bytes : List ℕ) → payload_in (received_symbols (bit_at bytes)) ≡ payload_of bytes
unfolding payload_in payload_byte symbol_byte symbol_bit data_symbol data_place payload_of payload_place received_symbols bytes_of
received_payload bytes =
    bits_same 15296 (symbol_bit (data_symbol (received_symbols (bit_at bytes)))) _ (λ i l.
    let u = i / 10 in
    let t = 781 * (u / 765) + u % 765 in
    let e : 10 * t + i % 10 ≡ 7810 * (i / 7650) + i % 7650 = omega arith in
    ap (λ (x : ℕ). bit_of 10 x (i % 10)) (tabulate_at 12496 (received_symbol (bit_at bytes)) t 0 (omega arith))
    ∙ symbol_bit_lem (bit_at bytes) (bit_at_lt bytes) t (i % 10) (omega arith)
    ∙ received_first (bit_at bytes) (10 * t + i % 10) (omega arith) ∙ ap (bit_at bytes) e)
