-- Document 01's twelve examples ("bench rows"), as a table.
use Rattle.std.specs.Prelude.{◌≡◌, true, List, [], ◌∷◌, ℕ, replicate}
use Rattle.fields.specs.Elements.{times_a, times_b}
use Rattle.fields.specs.Places.{at}
use Rattle.words.specs.Bits.{bit_at}
use Rattle.words.specs.InnerCode.{inner_parity}
use Rattle.words.specs.InnerWords.{inner_data}
use Rattle.frames.specs.Frames.{is_payload, frame_of}

pub data Example : Type 0 where
  product_a : ℕ → ℕ → ℕ → Example
  product_b : ℕ → ℕ → ℕ → Example
  payload_bit : ℕ → ℕ → Example
  parity_bit : ℕ → ℕ → ℕ → Example
  zero_payload : Example

-- x times y is z in field A, in field B; payload bit i is frame bit f; parity bit p of inner word k is frame bit f; the zero payload has the zero frame
unfoldable pub Holds : Example → Type 0
Holds (product_a x y z) = times_a x y ≡ z
Holds (product_b x y z) = times_b x y ≡ z
Holds (payload_bit i f) = (p : List ℕ) → is_payload p ≡ true → bit_at (frame_of p) f ≡ bit_at p i
Holds (parity_bit p k f) = (payload : List ℕ) → is_payload payload ≡ true →
    bit_at (frame_of payload) f ≡ at (inner_parity (inner_data (bit_at (frame_of payload)) k)) p
Holds zero_payload = frame_of (replicate 15296 0) ≡ replicate 16320 0

unfoldable pub AllHold : List Example → Type 0
AllHold [] = Unit {0}
AllHold (e ∷ rest) = Holds e × AllHold rest

unfoldable pub examples : List Example
examples =
    product_a 512 2 9 ∷ product_a 516 2 1 ∷ product_b 1024 2 5 ∷ product_b 1026 2 1
    ∷ payload_bit 7649 7649 ∷ payload_bit 7650 7810 ∷ payload_bit 114749 116989 ∷ payload_bit 114750 117150 ∷ payload_bit 122367 124767
    ∷ parity_bit 0 63 124991 ∷ parity_bit 1 0 124992 ∷ zero_payload ∷ []
