-- Document 03's payload of a block is ours. Assumes nothing.
use mathlib.Core.Path.{◌≡◌, sym, ap, ◌∙◌}
use mathlib.Core.List.{List, []}
use Prim.Native.Nat.{ℕ, zero, suc, ◌+◌, ◌-◌, ◌*◌, ◌/◌, ◌≤◌, ◌<◌}
use native.Mathlib.Decide.{dec_lt}
use native.Mathlib.Omega.{arith}
use lib.Dec.{ltb}
use lib.ListN.{length, take, drop, length-append, length-drop}
use lib.Seq.{get_or-take, get_or-drop, length-take-le}
use Rattle.fields.specs.Places.{at}
use Rattle.fields.proofs.Places.Placing.{append_at}
use Rattle.words.specs.Bits.{bit_at}
use Rattle.words.proofs.Bits.Bytes.{bits_same}
use Rattle.frames.specs.Frames.{payload_place}
use Rattle.frames.specs.Frames as Frames
use Rattle.document03.proofs.Fields.{pick}
use Rattle.document03.proofs.Words.Says.{bits_of}
use Rattle.document03.proofs.Words.BytesAgree.{bytes_agree}
use Rattle.document03.proofs.Frames.Statements.{payload_from, payload_of}
use Rattle.document03.proofs.Frames.ListsAgree.{bits_long, bit_at_lem, pick_lt, pick_le}

-- how many payload bits word w has
abbrev count : ℕ → ℕ
count w = pick (ltb w 15) 7650 7618

-- both numbers in one, for arithmetic
count_is : (w : ℕ) → w < 16 → count w + 32 * (w / 15) ≡ 7650
count_is w h = go (dec_lt w 15)
  where
    go : Dec (w < 15) → count w + 32 * (w / 15) ≡ 7650
    go (yes l) = omega (arith, pick_lt {A = ℕ} 7650 7618 w 15 l)
    go (no l) = let g : 15 ≤ w = omega arith in omega (arith, pick_le {A = ℕ} 7650 7618 w 15 g)

-- where payload bit i stands, by words
place_first : (i : ℕ) → i < 7650 → payload_place i ≡ i
unfolding payload_place
place_first i h = omega arith

place_next : (i : ℕ) → 7650 ≤ i → payload_place i ≡ 7810 + payload_place (i - 7650)
unfolding payload_place
place_next i h = omega arith

-- the payload bits in a block's bits fs, from word w on
module _ (fs : List ℕ) (long : length fs ≡ 130560) where
  abbrev part : ℕ → List ℕ
  part w = take (count w) (drop (7810 * w) fs)

  part_long : (w : ℕ) → w < 16 → length (part w) ≡ count w
  part_long w h = length-take-le (count w) (drop (7810 * w) fs) (omega (arith, length-drop (7810 * w) fs, count_is w h))

  from_long : (n w : ℕ) → w + suc n ≡ 16 → length (payload_from (suc n) w fs) + 7650 * w ≡ 122368
  from_long zero w h = omega (arith, length-append (part w) [], part_long w (omega arith), count_is w (omega arith))
  from_long (suc n) w h =
      let after = payload_from (suc n) (suc w) fs in
      omega (arith, length-append (part w) after, part_long w (omega arith), count_is w (omega arith), from_long n (suc w) (omega arith))

  from_at : (n w i : ℕ) → w + n ≡ 16 → i + 7650 * w < 122368 → at (payload_from n w fs) i ≡ at fs (7810 * w + payload_place i)
  from_at zero w i h l = absurd (omega arith)
  from_at (suc n) w i h l =
      append_at (part w) (payload_from n (suc w) fs) (count w) i (part_long w (omega arith))
      (λ a. get_or-take (count w) (drop (7810 * w) fs) i 0 a ∙ get_or-drop (7810 * w) fs i 0
      ∙ ap (λ (k : ℕ). at fs (7810 * w + k)) (sym (place_first i (omega (arith, count_is w (omega arith))))))
      (λ a. let c : count w ≡ 7650 = omega (arith, count_is w (omega arith)) in
      let q : i - count w ≡ i - 7650 = omega arith in
      let r : payload_place (i - count w) ≡ payload_place (i - 7650) = ap payload_place q in
      from_at n (suc w) (i - count w) (omega arith) (omega arith) ∙ ap (at fs) (omega (arith, r, place_next i (omega arith))))

pub payload_agrees : (b : List ℕ) → length b ≡ 16320 → payload_of (bits_of b) ≡ Frames.payload_of b
unfolding Frames.payload_of
payload_agrees b e =
    let fs = bits_of b in
    let long : length fs ≡ 130560 = bits_long b ∙ omega arith in
    bytes_agree 15296 (payload_from 16 0 fs) (omega (arith, from_long fs long 15 0 (omega arith)))
    ∙ bits_same 15296 _ _ (λ i l. from_at fs long 16 0 i (omega arith) (omega arith) ∙ bit_at_lem b (7810 * 0 + payload_place i) ∙ ap (bit_at b) (omega arith))
