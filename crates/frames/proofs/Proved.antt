-- What is proved of frames, in one record. Assumes nothing.
use mathlib.Core.Path.{◌≡◌, ap}
use mathlib.Core.Bool.{true}
use mathlib.Core.List.{List}
use Prim.Native.Nat.{ℕ}
use Rattle.inner_words.proofs.Interleaving.InterleavedBits.{place_to_bit, bit_to_place}
use Rattle.frames.specs.Frames.{is_payload, outer_words, frame_of, payload_of}
use Rattle.frames.specs.FrameLaws.{FrameLaws}
use Rattle.frames.proofs.Frames.FrameBits.{payload_is, payload_of_length, payload_of_below, frame_block, frame_parity, frame_inner, outer_code, payload_bits, payload_back}
use Rattle.frames.proofs.OuterSymbols.Received.{frame_same, same_frame}
use Rattle.frames.proofs.Frames.ExamplesHold.{examples_hold}

back : (p : List ℕ) → is_payload p ≡ true → payload_of (frame_of p) ≡ p
back p h = let t = payload_is p h in payload_back p t.0 t.1

stands : (b : List ℕ) → is_payload (payload_of b) ≡ true
unfolding is_payload
stands b = rw (payload_of_length b, payload_of_below b)

pub frame_laws : FrameLaws
unfolding frame_of
frame_laws =
    record {
      payload_back = back;
      written_accepted = λ p h. (frame_block (outer_words p), same_frame (frame_of p) (ap frame_of (back p h)));
      written_only = λ b h t. (stands b, frame_same b h t);
      outer_words_lem = λ p w h. outer_code p w;
      inner_words = λ p k h l. frame_inner (outer_words p) k l;
      payload_bits = λ p i h l. payload_bits p i l;
      place_to_bit = place_to_bit;
      bit_to_place = bit_to_place;
      parity_bits = λ payload p k h l m. frame_parity (outer_words payload) p k l m;
      examples_hold = examples_hold;
    }
