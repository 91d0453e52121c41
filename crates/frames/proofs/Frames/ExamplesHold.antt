-- Document 01's examples hold. Assumes nothing.
use mathlib.Core.Path.{refl}
use Prim.Native.Nat.{ℕ, ◌<◌}
use lib.Dec.{lit<}
use lib.ListN.{replicate, length-replicate}
use Rattle.fields.specs.Elements.{xor, scale, doubled, times_from, times}
use Rattle.fields.proofs.Places.Filling.{zeros_at}
use Rattle.words.specs.InnerWords.{parity_place}
use Rattle.frames.specs.Frames.{outer_words, frame_of, payload_place}
use Rattle.frames.specs.Examples.{Holds, AllHold, examples, payload_bit, parity_bit, zero_payload}
use Rattle.frames.proofs.Frames.FrameBits.{frame_parity, payload_bits}
use Rattle.frames.proofs.Frames.ZeroFrame.{zero_frame}

payload : (i : ℕ) → i < 122368 → Holds (payload_bit i (payload_place i))
unfolding Holds
payload i l p h = payload_bits p i l

parity : (p k : ℕ) → p < 88 → k < 64 → Holds (parity_bit p k (parity_place p k))
unfolding Holds frame_of
parity p k l m payload h = frame_parity (outer_words payload) p k l m

zeros : Holds zero_payload
unfolding Holds
zeros =
    zero_frame (replicate 15296 0) (replicate 16320 0) (length-replicate {A = ℕ} 15296 0) (length-replicate {A = ℕ} 16320 0) (zeros_at 15296) (zeros_at 16320)

infixr 5 ◌and◌
-- one example, and the rest
◌and◌ : {A B : Type 0} → A → B → A × B
a and b = (a, b)

-- products by computation, places by arithmetic
pub examples_hold : AllHold examples
unfolding AllHold examples Holds times times_from doubled scale xor payload_place parity_place
examples_hold =
    refl and refl and refl and refl
    and payload 7649 (lit< tt) and payload 7650 (lit< tt) and payload 114749 (lit< tt) and payload 114750 (lit< tt) and payload 122367 (lit< tt)
    and parity 0 63 (lit< tt) (lit< tt) and parity 1 0 (lit< tt) (lit< tt) and zeros and tt
