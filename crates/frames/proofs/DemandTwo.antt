-- Demand 2 for encoder, check and extractor: what they answer for the frame of a payload, and that no other block is answered by 0. Assumes nothing.
use mathlib.Core.Path.{◌≡◌, sym, ap, ◌∙◌, subst}
use mathlib.Core.Bool.{true}
use mathlib.Core.List.{List}
use Prim.Native.Nat.{ℕ}
use borrow.Author.Tests.{eq-eqb, eqb-true}
use lib.Dec.{eqb}
use lib.ListN.{length}
use Rattle.fields.specs.Places.{apart}
use Rattle.fields.proofs.Places.Differences.{apart_none}
use Rattle.words.specs.Answers.{answered}
use Rattle.frames.specs.Frames.{is_payload, is_block, outer_words, frame_of, payload_of}
use Rattle.frames.specs.Answers.{is_frame, frame_encoded, frame_checked, payload_extracted}
use Rattle.frames.proofs.Frames.FrameBits.{payload_is, block_is, frame_length, frame_block}
use Rattle.frames.proofs.Proved.{frame_laws}
use Rattle.frames.proofs.DemandOne.{none_broken}

module _ (payload : List ℕ) (valid : is_payload payload ≡ true) where
  pub encoded : (buffer : List ℕ) → length buffer ≡ 16320 → frame_encoded payload buffer ≡ (0, frame_of payload)
  unfolding frame_encoded answered
  encoded buffer room = rw (eq-eqb (length payload) 15296 (payload_is payload valid).0, eq-eqb (length buffer) 16320 room)

  -- the frame has its length, and is accepted
  long : eqb (length (frame_of payload)) 16320 ≡ true
  long = eq-eqb (length (frame_of payload)) 16320 (block_is (frame_of payload) (frame_laws.written_accepted payload valid).0).0

  accepted : is_frame (frame_of payload) ≡ true
  accepted = (frame_laws.written_accepted payload valid).1

  pub checked : frame_checked (frame_of payload) ≡ 0
  unfolding frame_checked
  checked = rw (long, accepted)

  pub extracted : (buffer : List ℕ) → length buffer ≡ 15296 → payload_extracted (frame_of payload) buffer ≡ (0, payload)
  unfolding payload_extracted answered
  extracted buffer room = rw (long, eq-eqb (length buffer) 15296 room, accepted, frame_laws.payload_back payload valid)

-- a block of a frame's length that is accepted is the frame of the payload in it
module _ (block : List ℕ) (size : eqb (length block) 16320 ≡ true) (frame : is_frame block ≡ true) where
  same : frame_of (payload_of block) ≡ block
  unfolding is_frame frame_of
  same =
      apart_none (frame_of (payload_of block)) block (frame_length (outer_words (payload_of block)) ∙ sym (eqb-true (length block) 16320 size))
      (eqb-true (apart (frame_of (payload_of block)) block) 0 frame)

  written : (is_payload (payload_of block) ≡ true) × (frame_of (payload_of block) ≡ block)
  unfolding frame_of
  written = frame_laws.written_only block (subst (λ (b : List ℕ). is_block b ≡ true) same (frame_block (outer_words (payload_of block)))) frame

pub checked_only : (block : List ℕ) → frame_checked block ≡ 0 → (payload : List ℕ) × (is_payload payload ≡ true) × (frame_of payload ≡ block)
unfolding frame_checked
checked_only block e =
    let size = none_broken (eqb (length block) 16320) 1 _ e in
    let w = written block size.0 (none_broken (is_frame block) 3 0 size.1).0 in
    (payload_of block, w.0, w.1)

pub extracted_only : (block buffer payload : List ℕ) → payload_extracted block buffer ≡ (0, payload) → (is_payload payload ≡ true) × (frame_of payload ≡ block)
unfolding payload_extracted answered
extracted_only block buffer payload e =
    let size = none_broken (eqb (length block) 16320) 1 _ (ap (λ (a : ℕ × List ℕ). a.0) e) in
    let room = none_broken (eqb (length buffer) 15296) 2 _ size.1 in
    let frame = none_broken (is_frame block) 3 0 room.1 in
    let out : payload_of block ≡ payload = rw (size.0, room.0, frame.0) at (ap {A = ℕ × List ℕ} {B = List ℕ} (λ a. a.1) e) in
    subst (λ (p : List ℕ). (is_payload p ≡ true) × (frame_of p ≡ block)) out (written block size.0 frame.0)
