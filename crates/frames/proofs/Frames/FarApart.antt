-- Frames of different payloads differ in at least 17 bits. Assumes nothing.
use mathlib.Core.Path.{◌≡◌, sym, ◌∙◌}
use mathlib.Core.Bool.{true}
use mathlib.Core.List.{List}
use Prim.Native.Nat.{ℕ, ◌+◌, ◌*◌, ◌%◌, ◌≤◌, ◌<◌}
use native.Mathlib.Decide.{dec_le}
use native.Mathlib.Omega.{arith}
use Rattle.fields.specs.Places.{sum_to, differs, apart}
use Rattle.fields.proofs.Places.Counting.{sum_same}
use Rattle.fields.proofs.Places.Differences.{sum_at_lem, sum_grid, apart_tables}
use Rattle.words.specs.Bits.{bit_at}
use Rattle.words.specs.InnerWords.{inner_word}
use Rattle.words.proofs.Codes.Proved.{codes}
use Rattle.words.proofs.Bits.Bytes.{bytes_same}
use Rattle.inner_words.proofs.Interleaving.InterleavedBits.{word_to_bit}
use Rattle.frames.specs.Frames.{is_payload, outer_words, frame_of, payload_place, payload_of, wrong_bits}
use Rattle.frames.proofs.Frames.FrameBits.{payload_is, frame_inner, payload_bits, payload_back}

-- the wrong bits of a block are those of its inner words
pub wrong_parts : (a b : List ℕ) → wrong_bits a b ≡ sum_to 64 (λ k. apart (inner_word (bit_at a) k) (inner_word (bit_at b) k))
unfolding wrong_bits inner_word
wrong_parts a b =
    sym (sum_same 64 _ _ (λ k l. apart_tables 2040 (λ p. bit_at a (64 * p + k)) (λ p. bit_at b (64 * p + k)))
    ∙ sum_grid 64 2040 (λ i. differs (bit_at a i) (bit_at b i)))

module _ (p q : List ℕ) where
  -- at most 16 of them leave each inner word the same
  same_bit : wrong_bits (frame_of p) (frame_of q) ≤ 16 → (i : ℕ) → i < 130560 → bit_at (frame_of p) i ≡ bit_at (frame_of q) i
  unfolding frame_of
  same_bit few i l =
      let f = bit_at (frame_of p) in
      let g = bit_at (frame_of q) in
      let k : i % 64 < 64 = omega arith in
      let near : apart (inner_word f (i % 64)) (inner_word g (i % 64)) ≤ 16 =
      omega (arith, wrong_parts (frame_of p) (frame_of q), sum_at_lem 64 (λ k. apart (inner_word f k) (inner_word g k)) (i % 64) k) in
      word_to_bit f g i l (codes.inner_far _ _ (frame_inner (outer_words p) (i % 64) k) (frame_inner (outer_words q) (i % 64) k) near)

  pub far : is_payload p ≡ true → is_payload q ≡ true → (p ≡ q → ⊥) → 17 ≤ wrong_bits (frame_of p) (frame_of q)
  unfolding payload_of payload_place
  far hp hq other = go (dec_le 17 (wrong_bits (frame_of p) (frame_of q)))
    where
      go : Dec (17 ≤ wrong_bits (frame_of p) (frame_of q)) → 17 ≤ wrong_bits (frame_of p) (frame_of q)
      go (yes h) = h
      go (no h) =
          let a = payload_is p hp in
          let b = payload_is q hq in
          absurd (other (sym (payload_back p a.0 a.1) ∙ bytes_same 15296 (λ i. bit_at (frame_of p) (payload_place i)) q b.0 b.1
          (λ i l. same_bit (omega arith) (payload_place i) (omega arith) ∙ payload_bits q i l)))
