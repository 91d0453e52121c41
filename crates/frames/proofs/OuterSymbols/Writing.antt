-- A law for each way through the functions on the outer symbols. Assumes nothing.
use mathlib.Core.Path.{◌≡◌, refl, sym, ap, ◌∙◌, subst}
use mathlib.Core.List.{List, ◌++◌}
use Prim.Native.Nat.{ℕ, ◌+◌, ◌-◌, ◌*◌, ◌/◌, ◌%◌, ◌≤◌, ◌<◌}
use native.Mathlib.Decide.{dec_lt}
use native.Mathlib.Omega.{arith}
use lib.Bits.{bit_and, and_high}
use borrow.Rule.Slice.PartMut.{put_mid}
use lib.ListN.{length, set, drop}
use Rattle.fields.specs.Lists.{tabulate}
use Rattle.fields.specs.Places.{at}
use Rattle.fields.specs.Steps.Buffers.{Placed}
use Rattle.fields.proofs.Lists.{tabulate_same}
use Rattle.fields.proofs.Places.Filling.{Filled, filled_start, filled_next, filled_end}
use Rattle.fields.proofs.Places.Placing.{placed_append}
use Rattle.words.specs.Bits.{bit_of, number_of, bit_at}
use Rattle.words.proofs.Bits.Bytes.{bit_at_lt}
use Rattle.words.proofs.Bits.Numbers.{bit_of_lt, bit_of_number, number_of_lt, number_of_same}
use Rattle.frames.specs.Frames.{symbol_at, data_in, outer_place}
use Rattle.frames.specs.Correction.{received_symbol}
use Rattle.frames.specs.Steps.Received.{received_symbols}
use Rattle.frames.specs.Steps.Symbols.{Sent, byte_at, number_at, parts_of, symbol_bit, symbol_byte, data_place, data_symbol, payload_byte, part_from, payload_in, start_of, end_of}
use Rattle.frames.proofs.Frames.FrameBits.{data_in_is, place_first, place_last}
use Rattle.frames.proofs.Numbers.Slices.{placed_slice, two_slices}
use Rattle.frames.proofs.Numbers.Parts.{part_length, part_filled, part_written, part_append}
use Rattle.frames.proofs.OuterSymbols.Received.{received_first, received_padding, received_last}
use Rattle.frames.proofs.Numbers.Windows.{byte_of_symbols}
use Rattle.frames.proofs.Numbers.Groups.{parts_same, symbols_from}

-- ---- the outer symbols of a payload

pub data_least : (w n : ℕ) → w < 16 → n ≡ data_in w → 3 ≤ n
data_least w n h e = omega (arith, data_in_is w h)

pub data_fours : (w n : ℕ) → w < 16 → n ≡ data_in w → 3 * w % 4 ≤ n
data_fours w n h e = omega (arith, data_least w n h e)

-- ---- the bytes that are sent of outer symbols

unfoldable pub sent_byte : List ℕ → ℕ → ℕ
sent_byte outer k = symbol_byte (at outer) (outer_place (8 * k))

-- the groups before the padding bits stand in the frame as in the outer symbols
pub sent_start : (outer before part : List ℕ) (m : ℕ) {five : List ℕ} → length before ≡ 16320 → m ≡ 15595 → ((i : ℕ) → i < 12476 → at part i ≡ at outer i) →
    five ≡ parts_of 8 m (symbol_bit (at part)) 0 → Filled 16320 (sent_byte outer) 15595 (five ++ drop 15595 before)
unfolding sent_byte symbol_byte part_from parts_of number_at
sent_start outer before part m {five} long em same e =
    part_written (sent_byte outer) 0 15595 15595 (filled_start long) (omega arith) refl (e
    ∙ ap (λ (x : ℕ). tabulate x (λ s. number_of 8 (λ j. symbol_bit (at part) (0 + 8 * s + j)))) em
    ∙ tabulate_same 15595 _ _ (λ k l. number_of_same 8 _ _ (λ j h.
    let i = 0 + 8 * k + j in
    symbols_from outer part 0 i (same (i / 10) (omega arith) ∙ ap (at outer) (omega arith))
    ∙ ap (symbol_bit (at outer)) (omega (arith, place_first (8 * (0 + k)) (omega arith))))))

pub sent_next : (outer : List ℕ) {out : List ℕ} {k p v : ℕ} → Filled 16320 (sent_byte outer) k out → k < 15616 → p ≡ outer_place (8 * k) → v ≡ symbol_byte (at outer) p →
    Filled 16320 (sent_byte outer) (k + 1) (set out k v)
unfolding sent_byte
sent_next outer h l ep e = filled_next h (omega arith) (e ∙ ap (symbol_byte (at outer)) ep)

-- the eight bits of a byte stand side by side in the outer symbols
place_within : (k j : ℕ) → j < 8 → outer_place (8 * k) + j ≡ outer_place (8 * k + j)
place_within k j l = go (dec_lt (8 * k) 124768)
  where
    go : Dec (8 * k < 124768) → outer_place (8 * k) + j ≡ outer_place (8 * k + j)
    go (yes h) = rw (place_first (8 * k) h, place_first (8 * k + j) (omega arith))
    go (no h) = rw (place_last (8 * k) (omega arith), place_last (8 * k + j) (omega arith)) (omega arith)

sent_bit_lem : (outer out : List ℕ) (i : ℕ) → at out (i / 8) ≡ sent_byte outer (i / 8) → bit_at out i ≡ symbol_bit (at outer) (outer_place i)
unfolding bit_at sent_byte symbol_byte symbol_bit
sent_bit_lem outer out i e =
    let p = outer_place (8 * (i / 8)) in
    let q : 8 * (i / 8) + i % 8 ≡ i = omega arith in
    ap (λ (x : ℕ). bit_of 8 x (i % 8)) e
    ∙ bit_of_number (λ j. symbol_bit (at outer) (p + j)) (λ j. bit_of_lt 10 (at outer ((p + j) / 10)) ((p + j) % 10)) 8 (i % 8) (omega arith)
    ∙ ap (symbol_bit (at outer)) (place_within (i / 8) (i % 8) (omega arith) ∙ ap outer_place q)

pub sent_end : (outer : List ℕ) {out : List ℕ} {k : ℕ} → Filled 16320 (sent_byte outer) k out → 15616 ≤ k → Sent outer out
sent_end outer {out} h l = record { long = h.long; bits = bit }
  where
    bit : (i : ℕ) → i < 124928 → bit_at out i ≡ symbol_bit (at outer) (outer_place i)
    bit i m = sent_bit_lem outer out i (h.done (i / 8) (omega arith))

-- ---- the outer symbols of a block

-- the symbols before the one with the padding bits stand in the block as in the outer symbols
parts_received : (b : ℕ → ℕ) (t n : ℕ) → t + n ≤ 12476 → parts_of 10 n b (10 * t) ≡ part_from (received_symbol b) t n
unfolding parts_of number_at part_from received_symbol symbol_at
parts_received b t n room =
    tabulate_same n _ _ (λ s l. number_of_same 10 _ _ (λ j h. ap b (omega arith) ∙ sym (received_first b (10 * (t + s) + j) (omega arith))))

pub symbol_after : (b : ℕ → ℕ) (t s : ℕ) → 12476 ≤ t → (t ≡ 12476 → ⊥) → s ≡ symbol_at b (10 * t - 2) → s ≡ received_symbol b t
unfolding symbol_at received_symbol
symbol_after b t s l n e =
    e ∙ number_of_same 10 _ _ (λ j h. ap b (omega arith) ∙ sym (received_last b (10 * t + j) (omega arith)))

-- the last two bits of the symbol with the padding bits are 0
pub symbol_padded : (bytes : List ℕ) (t s : ℕ) → t ≡ 12476 → s ≡ symbol_at (bit_at bytes) (10 * t) → bit_and s 1020 ≡ received_symbol (bit_at bytes) t
unfolding symbol_at received_symbol number_of
symbol_padded bytes t s et e =
    let b = bit_at bytes in
    let first = number_of 8 (λ j. b (10 * t + j)) in
    let small : first < 256 = number_of_lt (λ j. b (10 * t + j)) (λ j. bit_at_lt bytes (10 * t + j)) 8 in
    let same = number_of_same 8 _ _ (λ j h. sym (received_first b (10 * t + j) (omega arith))) in
    and_high s 8 2
    ∙ omega (
      arith,
      same,
      bit_at_lt bytes (10 * t + 8),
      bit_at_lt bytes (10 * t + 9),
      received_padding b (10 * t + 8) (omega arith) (omega arith),
      received_padding b (10 * t + 9) (omega arith) (omega arith),
    )

-- an outer word before the last, and the last one
pub word_first : (b : ℕ → ℕ) (w r : ℕ) {word : List ℕ} → w < 15 → word ≡ parts_of 10 r b (7810 * w) → r ≡ 781 → word ≡ part_from (received_symbol b) (781 * w) 781
word_first b w r h e er =
    let i : 7810 * w ≡ 10 * (781 * w) = omega arith in
    e ∙ ap (λ (x : ℕ). parts_of 10 x b (7810 * w)) er ∙ ap (parts_of 10 781 b) i ∙ parts_received b (781 * w) 781 (omega arith)

pub word_last : (b : ℕ → ℕ) (w r s : ℕ) (before : List ℕ) {first last : List ℕ} → w < 16 → 15 ≤ w → length before ≡ 781 → first ≡ parts_of 10 r b (7810 * w) → r ≡ 761 →
    last ≡ part_from (received_symbol b) 12476 20 → s ≡ 20 → put_mid 761 s (first ++ drop 761 before) last ≡ part_from (received_symbol b) (781 * w) 781
word_last b w r s before {first} {last} h g long e er el es =
    let f = received_symbol b in
    let t = 781 * w in
    let i : 7810 * w ≡ 10 * t = omega arith in
    let place : 12476 ≡ t + 761 = omega arith in
    let one : first ≡ part_from f t 761 = e ∙ ap (λ (x : ℕ). parts_of 10 x b (7810 * w)) er ∙ ap (parts_of 10 761 b) i ∙ parts_received b t 761 (omega arith) in
    let two : last ≡ part_from f (t + 761) 20 = el ∙ ap (λ (x : ℕ). part_from f x 20) place in
    two_slices before first last 761 s (ap length one ∙ part_length f t 761) (ap length el ∙ part_length f 12476 20 ∙ sym es) (omega arith)
    ∙ rw (one, two) (part_append f t 761 20)

-- one word after the other
pub symbols_start : (b : ℕ → ℕ) {outer : List ℕ} → length outer ≡ 12496 → Filled 12496 (received_symbol b) (781 * 0) outer
symbols_start b e = filled_start e

pub symbols_next : (b : ℕ → ℕ) {w : ℕ} (n : ℕ) {outer word : List ℕ} → Filled 12496 (received_symbol b) (781 * w) outer → w < 16 → n ≡ 781 →
    word ≡ part_from (received_symbol b) (781 * w) 781 → Filled 12496 (received_symbol b) (781 * (w + 1)) (put_mid (781 * w) n outer word)
symbols_next b {w} n {outer} {word} f h en e =
    let next : 781 * w + 781 ≡ 781 * (w + 1) = omega arith in
    rw next at (part_written (received_symbol b) (781 * w) 781 n f (omega arith) en e)

pub symbols_end : (b : ℕ → ℕ) {w : ℕ} {outer : List ℕ} → Filled 12496 (received_symbol b) (781 * w) outer → 16 ≤ w → outer ≡ received_symbols b
unfolding received_symbols
symbols_end b h l = filled_end h (omega arith)

-- ---- the payload in outer symbols

pub payload_read : (outer : List ℕ) (k p q x y b : ℕ) → p ≡ data_place (8 * k / 10) → x ≡ at outer p → q ≡ data_place (8 * k / 10 + 1) → y ≡ at outer q →
    b ≡ byte_at x y (8 * k % 10) → b ≡ payload_byte outer k
unfolding payload_byte data_symbol
payload_read outer k p q x y b ep ex eq ey e = byte_of_symbols (data_symbol outer) (8 * k) x y b (ex ∙ ap (at outer) ep) (ey ∙ ap (at outer) eq) e

-- the groups of an outer word stand in the payload as in the outer symbols
module _ (outer : List ℕ) (w g n : ℕ) (h : w < 16) (en : n ≡ data_in w) (eg : g ≡ (n - 3 * w % 4) / 4) where
  group_byte : 8 * (5 * ((765 * w + 3 * w % 4) / 4)) ≡ 10 * (765 * w + 3 * w % 4)
  group_byte = let e : 3 * w ≡ 4 * (3 * w / 4) + 3 * w % 4 = omega arith in omega arith

  group_bit : (x : ℕ) → x < 40 * g → symbol_bit (at outer) (10 * (781 * w + 3 * w % 4) + x) ≡ symbol_bit (data_symbol outer) (10 * (765 * w + 3 * w % 4) + x)
  unfolding symbol_bit data_symbol data_place
  group_bit x l =
      let f = 3 * w % 4 in
      let inside : f + x / 10 < 765 = omega (arith, data_in_is w h) in
      let a : (10 * (781 * w + f) + x) / 10 ≡ 781 * w + (f + x / 10) = omega arith in
      let b : (10 * (765 * w + f) + x) / 10 ≡ 765 * w + (f + x / 10) = omega arith in
      let c : (765 * w + (f + x / 10)) / 765 ≡ w = omega arith in
      let d : (765 * w + (f + x / 10)) % 765 ≡ f + x / 10 = omega arith in
      let r : (10 * (781 * w + f) + x) % 10 ≡ x % 10 = omega arith in
      let s : (10 * (765 * w + f) + x) % 10 ≡ x % 10 = omega arith in
      rw (a, r, b, s, c, d)

  groups_payload : parts_of 8 (5 * g) (symbol_bit (at outer)) (10 * (781 * w + 3 * w % 4)) ≡ part_from (payload_byte outer) (5 * ((765 * w + 3 * w % 4) / 4)) (5 * g)
  unfolding parts_of number_at part_from payload_byte symbol_byte
  groups_payload =
      tabulate_same (5 * g) _ _ (λ m l. number_of_same 8 _ _ (λ j b.
      ap (symbol_bit (at outer)) (omega arith) ∙ group_bit (8 * m + j) (omega arith) ∙ ap (symbol_bit (data_symbol outer)) (omega (arith, group_byte))))

  pub groups_room : (p : ℕ) → p ≡ data_place (765 * w + 3 * w % 4) → length outer ≡ 12496 → p + 4 * g ≤ length outer
  unfolding data_place
  groups_room p ep long = omega (arith, data_in_is w h)

pub bytes_room : (w g n : ℕ) → w < 16 → n ≡ data_in w → g ≡ (n - 3 * w % 4) / 4 → 5 * ((765 * w + 3 * w % 4) / 4) + 5 * g ≤ 15296
bytes_room w g n h en eg = omega (arith, data_in_is w h)

-- fours up to place f after u and from there on, of n places
fours : (u f n g a : ℕ) → u + f ≡ 4 * a → f ≤ n → g ≡ (n - f) / 4 → 5 * a - 5 * (u / 4) + 5 * g ≡ 5 * ((u + n) / 4) - 5 * (u / 4)
fours u f n g a e l eg =
    let all : (u + n) / 4 ≡ a + g = omega arith in
    let least : u / 4 ≤ a = omega arith in
    rw all (after a g (u / 4) least)
  where
    after : (a g s : ℕ) → s ≤ a → 5 * a - 5 * s + 5 * g ≡ 5 * (a + g) - 5 * s
    after a g s l = omega arith

-- the bytes that begin before an outer word, and its groups
pub word_extracted : (outer part : List ℕ) (w g n p c d r m : ℕ) {before first groups : List ℕ} → w < 16 → n ≡ data_in w → g ≡ (n - 3 * w % 4) / 4 →
    p ≡ data_place (765 * w + 3 * w % 4) → length before ≡ 15296 → ((i : ℕ) → i < 4 * g → at part i ≡ at outer (p + i)) →
    first ≡ part_from (payload_byte outer) (5 * (765 * w / 4)) r → r ≡ 5 * ((765 * w + 3 * w % 4) / 4) - 5 * (765 * w / 4) → c ≡ r →
    groups ≡ parts_of 8 m (symbol_bit (at part)) 0 → m ≡ 5 * g → d ≡ m →
    Placed (start_of w) (part_from (payload_byte outer) (start_of w) (end_of w - start_of w)) before
    (put_mid (5 * ((765 * w + 3 * w % 4) / 4)) d (put_mid (5 * (765 * w / 4)) c before first) groups)
unfolding start_of end_of data_place
word_extracted outer part w g n p c d r m {before} {first} {groups} h en eg ep long same e1 er ec e2 em ed =
    let f = 3 * w % 4 in
    let s = 5 * (765 * w / 4) in
    let k = 5 * ((765 * w + f) / 4) in
    let b = payload_byte outer in
    let mid = put_mid s c before first in
    let place : p ≡ 781 * w + f = omega arith in
    let four : 765 * w + f ≡ 4 * ((765 * w + f) / 4) = omega (arith, group_byte outer w g n h en eg) in
    let end : k - s + 5 * g ≡ 5 * ((765 * w + data_in w) / 4) - s =
    fours (765 * w) f (data_in w) g ((765 * w + f) / 4) four (omega (arith, data_in_is w h)) (eg ∙ ap (λ (x : ℕ). (x - f) / 4) en) in
    let next : k ≡ s + (k - s) = omega arith in
    let one : first ≡ part_from b s (k - s) = e1 ∙ ap (part_from b s) er in
    let two : groups ≡ part_from b k (5 * g) =
    e2 ∙ ap (λ (x : ℕ). parts_of 8 x (symbol_bit (at part)) 0) em
    ∙ parts_same 8 (5 * g) (symbol_bit (at part)) (symbol_bit (at outer)) 0 (10 * (781 * w + f)) (λ j l.
    let i = 0 + j in
    symbols_from outer part (781 * w + f) i (same (i / 10) (omega arith) ∙ ap (at outer) (omega arith)) ∙ ap (symbol_bit (at outer)) (omega arith))
    ∙ groups_payload outer w g n h en eg in
    let l1 : length first ≡ c = ap length one ∙ part_length b s (k - s) ∙ sym er ∙ sym ec in
    let l2 : length groups ≡ d = ap length two ∙ part_length b k (5 * g) ∙ sym em ∙ sym ed in
    let room : k + 5 * g ≤ 15296 = omega (arith, data_in_is w h) in
    let x : Placed s first before mid = placed_slice s c first before l1 (omega arith) in
    let y : Placed k groups mid (put_mid k d mid groups) = placed_slice k d groups mid l2 (omega (arith, x.long)) in
    let x' = subst (λ (xs : List ℕ). Placed s xs before mid) one x in
    let y' = subst (λ (xs : List ℕ). Placed k xs mid (put_mid k d mid groups)) two y in
    let y'' = subst (λ (i : ℕ). Placed i (part_from b i (5 * g)) mid (put_mid k d mid groups)) next y' in
    let whole : part_from b s (k - s) ++ part_from b (s + (k - s)) (5 * g) ≡ part_from b s (5 * ((765 * w + data_in w) / 4) - s) =
    part_append b s (k - s) (5 * g) ∙ ap (part_from b s) end in
    subst (λ (xs : List ℕ). Placed s xs before (put_mid k d mid groups)) whole (placed_append (part_length b s (k - s)) x' y'')

-- the bytes that are written before outer word w
unfoldable pub done_to : ℕ → ℕ
done_to w = 5 * ((765 * w - 3 * (w / 16)) / 4)

pub payload_start : (outer : List ℕ) {out : List ℕ} → length out ≡ 15296 → Filled 15296 (payload_byte outer) (done_to 0) out
unfolding done_to
payload_start outer e = filled_start e

pub payload_word : (outer : List ℕ) {w : ℕ} {out after : List ℕ} → Filled 15296 (payload_byte outer) (done_to w) out → w < 16 →
    Placed (start_of w) (part_from (payload_byte outer) (start_of w) (end_of w - start_of w)) out after → Filled 15296 (payload_byte outer) (done_to (w + 1)) after
unfolding done_to start_of end_of
payload_word outer {w} f h p =
    let s = 5 * (765 * w / 4) in
    let start : 5 * ((765 * w - 3 * (w / 16)) / 4) ≡ s = omega arith in
    let e : s + (5 * ((765 * w + data_in w) / 4) - s) ≡ 5 * ((765 * (w + 1) - 3 * ((w + 1) / 16)) / 4) = omega (arith, data_in_is w h) in
    rw e at (part_filled (payload_byte outer) s (5 * ((765 * w + data_in w) / 4) - s) (rw start at f) (omega (arith, data_in_is w h)) p)

pub payload_all : (outer : List ℕ) {w : ℕ} (n r : ℕ) {out last : List ℕ} → Filled 15296 (payload_byte outer) (done_to w) out → w ≤ 16 → 16 ≤ w →
    last ≡ part_from (payload_byte outer) 15295 r → r ≡ 1 → n ≡ 1 → put_mid 15295 n out last ≡ payload_in outer
unfolding payload_in done_to
payload_all outer {w} n r {out} {last} f l g e er en =
    let all : 5 * ((765 * w - 3 * (w / 16)) / 4) ≡ 15295 = omega arith in
    filled_end (part_written (payload_byte outer) 15295 1 n (rw all at f) (omega arith) en (e ∙ ap (part_from (payload_byte outer) 15295) er)) (omega arith)
