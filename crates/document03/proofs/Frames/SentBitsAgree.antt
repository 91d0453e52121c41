-- Document 03's sent bits of sixteen outer words are ours. Assumes nothing.
use mathlib.Core.Path.{◌≡◌, refl, sym, ap, ◌∙◌}
use mathlib.Core.List.{List, [], ◌∷◌, ◌++◌, append-nil}
use Prim.Native.Nat.{ℕ, suc, ◌+◌, ◌-◌, ◌*◌, ◌/◌, ◌%◌, ◌≤◌, ◌<◌}
use native.Mathlib.Omega.{arith}
use lib.ListN.{length, get_or, take, drop, length-append, length-drop}
use lib.Seq.{get_or-take, get_or-drop, length-take-le}
use Rattle.fields.specs.Places.{at}
use Rattle.fields.proofs.Places.Placing.{append_at}
use Rattle.words.specs.Bits.{bit_of}
use Rattle.frames.specs.Frames.{data_in, outer_bit, outer_place, sent_bit}
use Rattle.frames.proofs.Frames.FrameBits.{data_in_first, place_first, place_last, place_near}
use Rattle.document03.proofs.Words.Statements.{bits_from}
use Rattle.document03.proofs.Words.BitRegister.{bits_length, bits_at}
use Rattle.document03.proofs.Frames.Statements.{symbol_bits, sent_bits, sent_from}
use Rattle.document03.proofs.Frames.ListsAgree.{pick_lt}

-- the bits of symbols
symbol_bits_long : (ss : List ℕ) → length (symbol_bits ss) ≡ 10 * length ss
symbol_bits_long [] = refl
symbol_bits_long (s ∷ ss) = length-append (bits_from 10 s) (symbol_bits ss) ∙ omega (arith, bits_length 10 s, symbol_bits_long ss)

symbol_bit_lem : (ss : List ℕ) (i : ℕ) → i < 10 * length ss → at (symbol_bits ss) i ≡ bit_of 10 (at ss (i / 10)) (i % 10)
symbol_bit_lem [] i h = absurd (omega arith)
symbol_bit_lem (s ∷ ss) i h =
    append_at (bits_from 10 s) (symbol_bits ss) 10 i (bits_length 10 s)
    (λ l. let q : i / 10 ≡ 0 = omega arith in
    let r : i % 10 ≡ i = omega arith in
    bits_at 10 s i l ∙ rw (q, r))
    (λ l. let q : i / 10 ≡ suc ((i - 10) / 10) = omega arith in
    let r : i % 10 ≡ (i - 10) % 10 = omega arith in
    symbol_bit_lem ss (i - 10) (omega arith) ∙ rw (q, r))

-- our outer symbols: the bits of the first word, and those of the others
symbols_first : (ss : List ℕ) (rest : List (List ℕ)) (r : ℕ) → r < 7810 → outer_bit (ss ∷ rest) r ≡ bit_of 10 (at ss (r / 10)) (r % 10)
unfolding outer_bit
symbols_first ss rest r h =
    let q : r / 7810 ≡ 0 = omega arith in
    let m : r % 7810 ≡ r = omega arith in
    rw (q, m)

symbols_rest : (ss : List ℕ) (rest : List (List ℕ)) (r : ℕ) → outer_bit (ss ∷ rest) (7810 + r) ≡ outer_bit rest r
unfolding outer_bit
symbols_rest ss rest r =
    let q : (7810 + r) / 7810 ≡ suc (r / 7810) = omega arith in
    let m : (7810 + r) % 7810 ≡ r % 7810 = omega arith in
    let t : (7810 + r) % 10 ≡ r % 10 = omega arith in
    rw (q, m, t)

-- outer words w, w + 1, .. 15, of their lengths
pub record Words (w : ℕ) (ws : List (List ℕ)) : Type 0 where
  pub count : w + length ws ≡ 16
  pub long : (j : ℕ) → j < length ws → length (get_or ws j []) ≡ data_in (w + j) + 16

others : {w : ℕ} {ss : List ℕ} {rest : List (List ℕ)} → Words w (ss ∷ rest) → Words (suc w) rest
others {w} h =
    record {
      count = omega (arith, h.count);
      long = λ j l. h.long (suc j) (omega arith) ∙ ap (λ (k : ℕ). data_in k + 16) (omega arith);
    }

first_long : (w : ℕ) {ss : List ℕ} {rest : List (List ℕ)} → w < 15 → Words w (ss ∷ rest) → length ss ≡ 781
first_long w l h = h.long 0 (omega arith) ∙ ap (λ (n : ℕ). n + 16) (data_in_first (w + 0) (omega arith))

last_long : {ss : List ℕ} → Words 15 (ss ∷ []) → length ss ≡ 778
unfolding data_in
last_long h = h.long 0 (omega arith)

-- the last word, without the two padding bits
module _ (ss : List ℕ) (long : length ss ≡ 778) where
  abbrev b : List ℕ
  b = symbol_bits ss

  b_long : length b ≡ 7780
  b_long = symbol_bits_long ss ∙ omega arith

  start_long : length (take 7618 b) ≡ 7618
  start_long = length-take-le 7618 b (omega (arith, b_long))

  last_bits_long : length (sent_bits 15 ss) ≡ 7778
  last_bits_long = length-append (take 7618 b) (drop 7620 b) ∙ omega (arith, start_long, length-drop 7620 b, b_long)

  last_bit : (i r : ℕ) → i < 7778 → outer_place (i + 117150) ≡ r + 117150 → at (sent_bits 15 ss) i ≡ outer_bit (ss ∷ []) r
  last_bit i r h p =
      append_at (take 7618 b) (drop 7620 b) 7618 i start_long
      (λ l. let q : i ≡ r = omega (arith, place_first (i + 117150) (omega arith)) in get_or-take 7618 b i 0 l ∙ ap (at b) q)
      (λ l. let q : 7620 + (i - 7618) ≡ r = omega (arith, place_last (i + 117150) (omega arith)) in get_or-drop 7620 b (i - 7618) 0 ∙ ap (at b) q)
      ∙ symbol_bit_lem ss r (omega (arith, place_near (i + 117150))) ∙ sym (symbols_first ss [] r (omega (arith, place_near (i + 117150))))

-- the bits from word w on
module _ (w : ℕ) (ss : List ℕ) where
  sent_first : (rest : List (List ℕ)) → w < 15 → sent_from w (ss ∷ rest) ≡ symbol_bits ss ++ sent_from (suc w) rest
  sent_first rest h = ap (λ (b : List ℕ). b ++ sent_from (suc w) rest) (pick_lt _ _ w 15 h)

  sent_last : w ≡ 15 → sent_from w (ss ∷ []) ≡ sent_bits 15 ss
  sent_last e = ap (λ (k : ℕ). sent_from k (ss ∷ [])) e ∙ append-nil (sent_bits 15 ss)

from_long : (w : ℕ) (ws : List (List ℕ)) → w < 16 → Words w ws → length (sent_from w ws) + 7810 * w ≡ 124928
from_long w [] l h = absurd (omega (arith, h.count))
from_long w (ss ∷ []) l h =
    let e : w ≡ 15 = omega (arith, h.count) in
    omega (arith, ap length (sent_last w ss e), last_bits_long ss (last_long (rw e at h)))
from_long w (ss ∷ s ∷ rest) l h =
    let after = sent_from (suc w) (s ∷ rest) in
    let f : w < 15 = omega (arith, h.count) in
    let n : length (sent_from w (ss ∷ s ∷ rest)) ≡ length (symbol_bits ss) + length after =
    ap length (sent_first w ss (s ∷ rest) f) ∙ length-append (symbol_bits ss) after in
    omega (arith, n, symbol_bits_long ss, first_long w f h, from_long (suc w) (s ∷ rest) (omega arith) (others h))

from_at : (w : ℕ) (ws : List (List ℕ)) (i r : ℕ) → Words w ws → i + 7810 * w < 124928 → outer_place (i + 7810 * w) ≡ r + 7810 * w
    → at (sent_from w ws) i ≡ outer_bit ws r
from_at w [] i r h l p = absurd (omega (arith, h.count))
from_at w (ss ∷ []) i r h l p =
    let e : w ≡ 15 = omega (arith, h.count) in
    ap (λ (b : List ℕ). at b i) (sent_last w ss e) ∙ last_bit ss (last_long (rw e at h)) i r (omega arith) (rw e at p)
from_at w (ss ∷ s ∷ rest) i r h l p =
    let f : w < 15 = omega (arith, h.count) in
    ap (λ (b : List ℕ). at b i) (sent_first w ss (s ∷ rest) f)
    ∙ append_at (symbol_bits ss) (sent_from (suc w) (s ∷ rest)) 7810 i (omega (arith, symbol_bits_long ss, first_long w f h))
    (λ a. let q : i ≡ r = omega (arith, place_first (i + 7810 * w) (omega arith)) in
    symbol_bit_lem ss i (omega (arith, first_long w f h)) ∙ sym (symbols_first ss (s ∷ rest) i a) ∙ ap (outer_bit (ss ∷ s ∷ rest)) q)
    (λ a. let c : i - 7810 + 7810 * suc w ≡ i + 7810 * w = omega arith in
    let m : i + 7810 * w ≤ outer_place (i + 7810 * w) = (place_near (i + 7810 * w)).0 in
    let q : 7810 + (r - 7810) ≡ r = omega arith in
    from_at (suc w) (s ∷ rest) (i - 7810) (r - 7810) (others h) (omega arith) (ap outer_place c ∙ p ∙ omega arith)
    ∙ sym (symbols_rest ss (s ∷ rest) (r - 7810)) ∙ ap (outer_bit (ss ∷ s ∷ rest)) q)

pub sent_long : (ws : List (List ℕ)) → Words 0 ws → length (sent_from 0 ws) ≡ 124928
sent_long ws h = omega (arith, from_long 0 ws (omega arith) h)

pub sent_at : (ws : List (List ℕ)) → Words 0 ws → (i : ℕ) → i < 124928 → at (sent_from 0 ws) i ≡ sent_bit ws i
unfolding sent_bit
sent_at ws h i l = let c : i + 7810 * 0 ≡ i = omega arith in from_at 0 ws i (outer_place i) h (omega arith) (ap outer_place c ∙ omega arith)
