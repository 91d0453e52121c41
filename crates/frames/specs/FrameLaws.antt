-- What is proved of frames.
use Rattle.std.specs.Prelude.{◌≡◌, true, List, ℕ, ◌+◌, ◌*◌, ◌/◌, ◌%◌, ◌<◌}
use Rattle.fields.specs.Places.{at}
use Rattle.words.specs.Bits.{bit_at}
use Rattle.words.specs.OuterCode.{is_outer}
use Rattle.words.specs.InnerCode.{is_inner, inner_parity}
use Rattle.words.specs.InnerWords.{inner_data, inner_word, parity_place}
use Rattle.frames.specs.Frames.{is_payload, is_block, outer_word, frame_of, payload_place, payload_of}
use Rattle.frames.specs.Answers.{is_frame}
use Rattle.frames.specs.Examples.{AllHold, examples}

pub record FrameLaws : Type 0 where
  -- the payload of the frame of a payload is that payload
  pub payload_back : (p : List ℕ) → is_payload p ≡ true → payload_of (frame_of p) ≡ p
  -- the frame of a payload is accepted; and an accepted block is the frame of a payload, the one that stands in it: the encoder writes no other
  pub written_accepted : (p : List ℕ) → is_payload p ≡ true → (is_block (frame_of p) ≡ true) × (is_frame (frame_of p) ≡ true)
  pub written_only : (b : List ℕ) → is_block b ≡ true → is_frame b ≡ true → (is_payload (payload_of b) ≡ true) × (frame_of (payload_of b) ≡ b)
  -- each outer word of a payload and each inner word of a frame is a code word
  pub outer_words_lem : (p : List ℕ) (w : ℕ) → is_payload p ≡ true → is_outer (outer_word p w) ≡ true
  pub inner_words : (p : List ℕ) (k : ℕ) → is_payload p ≡ true → k < 64 → is_inner (inner_word (bit_at (frame_of p)) k) ≡ true
  -- payload bit i is frame bit `payload_place i`
  pub payload_bits : (p : List ℕ) (i : ℕ) → is_payload p ≡ true → i < 122368 → bit_at (frame_of p) (payload_place i) ≡ bit_at p i
  -- place p of inner word k is frame bit 64 p + k, and frame bit i is place i div 64 of inner word i mod 64
  pub place_to_bit : (b : ℕ → ℕ) (k p : ℕ) → p < 2040 → at (inner_word b k) p ≡ b (64 * p + k)
  pub bit_to_place : (b : ℕ → ℕ) (i : ℕ) → i < 130560 → b i ≡ at (inner_word b (i % 64)) (i / 64)
  -- parity bit p of inner word k is frame bit 124,928 + 64 p + k
  pub parity_bits : (payload : List ℕ) (p k : ℕ) → is_payload payload ≡ true → p < 88 → k < 64
      → bit_at (frame_of payload) (parity_place p k) ≡ at (inner_parity (inner_data (bit_at (frame_of payload)) k)) p
  -- document 01's examples
  pub examples_hold : AllHold examples
