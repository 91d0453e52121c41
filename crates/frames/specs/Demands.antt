-- What the buyer asked for, and what is proved: the record to open first. `demands` of proofs/Demands.antt is the proof.
use Rattle.std.specs.Prelude.{◌≡◌, ◌⊎◌, Bool, true, false, not, cond, List, [], ◌∷◌, ℕ, ◌+◌, ◌*◌, ◌%◌, ◌≤◌, ◌<◌, min, eqb, length, get_or}
use Rattle.std.proofs.Math.Option.{none, some}
use Rattle.fields.specs.Lists.{tabulate}
use Rattle.fields.specs.Field.{Field}
use Rattle.fields.specs.Places.{at, all_below, sum_to, differs, apart}
use Rattle.words.specs.Corrections.{Correction, Corrected, Refused, refusal_of, changed_of}
use Rattle.words.specs.InnerCorrections.{InnerCorrection, inner_refusal_of, data_changed_of, parity_changed_of}
use Rattle.words.specs.InnerCorrections as Inner
use Rattle.words.specs.Bits.{bit_at, bits_of}
use Rattle.words.specs.OuterCode.{is_outer}
use Rattle.words.specs.InnerCode.{is_inner}
use Rattle.words.specs.Nearest.{is_some, nearest}
use Rattle.words.specs.InnerWords.{inner_word, inner_pass, is_lost}
use Rattle.words.specs.Answers.{unless, within, outer_checked, outer_encoded, outer_corrected, inner_checked, inner_encoded, inner_corrected}
use Rattle.words.specs.Codes.{Codes}
use Rattle.frames.specs.Frames.{is_payload, is_block, data_in, frame_of_words, frame_of, wrong_bits}
use Rattle.frames.specs.Correction.{received_bit, received_word, is_permitted, outer_restored, restored_frame, data_counts, parity_counts, all_counted}
use Rattle.frames.specs.Answers.{is_frame, frame_encoded, frame_checked, payload_extracted, refused, frame_corrected, without_report}
use Rattle.frames.specs.FrameLaws.{FrameLaws}

-- ---- demand 1: whatever breaks the rules of document 01 is refused by its number, and every lent byte keeps its value

-- an entry's rules in their order, each the number of its refusal and whether it holds: the number of the first that is broken; 0, if all hold
unfoldable pub first_broken : List (ℕ × Bool) → ℕ
first_broken [] = 0
first_broken (rule ∷ rules) = unless rule.1 rule.0 (first_broken rules)

-- what an entry answers that has an output buffer: a number, and what is in the buffer then
pub record Refuses (answer : ℕ × List ℕ) (buffer : List ℕ) (rules : List (ℕ × Bool)) : Type 0 where
  -- the number is that of the first rule that is broken
  pub number : answer.0 ≡ first_broken rules
  -- a number that is not 0 leaves the buffer as it was
  pub kept : (answer.0 ≡ 0 → ⊥) → answer.1 ≡ buffer
  -- what is written has the size of the buffer
  pub fits : length answer.1 ≡ length buffer

-- number and buffer of the answer to a single word's correction
abbrev pub without_count : Correction × List ℕ → ℕ × List ℕ
without_count a = (refusal_of a.0, a.1)

abbrev pub without_counts : InnerCorrection × List ℕ → ℕ × List ℕ
without_counts a = (inner_refusal_of a.0, a.1)

-- each entry's answer, as its contract gives it (words/src/lib.rt, frames/src/lib.rt, frames_c/src/lib.rt), and its rules
pub record Demand1 : Type 0 where
  -- encoder: 1, length of the payload; 3, size of the buffer
  pub encode : (payload buffer : List ℕ) →
      Refuses (frame_encoded payload buffer) buffer ((1, eqb (length payload) 15296) ∷ (3, eqb (length buffer) 16320) ∷ [])
  -- check: 2, length of the block; 4, no frame
  pub check : (block : List ℕ) → frame_checked block ≡ first_broken ((2, eqb (length block) 16320) ∷ (4, is_frame block) ∷ [])
  -- extractor: 2, length of the block; 3, size of the buffer; 4, no frame
  pub extract : (block buffer : List ℕ) →
      Refuses (payload_extracted block buffer) buffer ((2, eqb (length block) 16320) ∷ (3, eqb (length buffer) 15296) ∷ (4, is_frame block) ∷ [])
  -- corrector: 2, length of the block; 3, size of the buffer; 5, uncorrectable
  pub correct : (block buffer : List ℕ) →
      Refuses (without_report (frame_corrected block buffer)) buffer
      ((2, eqb (length block) 16320) ∷ (3, eqb (length buffer) 16320) ∷ (5, is_some (restored_frame block)) ∷ [])
  -- its refusals carry nothing else: counts and sum are 0
  pub correct_alone : (block buffer : List ℕ) → ((frame_corrected block buffer).0 ≡ 0 → ⊥) →
      frame_corrected block buffer ≡ refused (frame_corrected block buffer).0 buffer
  -- its entry for the C host gives its number and its buffer
  pub correct_c : (block buffer : List ℕ) → without_report (frame_corrected block buffer) ≡ ((frame_corrected block buffer).0, (frame_corrected block buffer).4)
  -- check of an outer word: 6, its length; 7, a symbol above 1,023; 4, no code word
  pub check_outer : (word : List ℕ) →
      outer_checked word ≡ first_broken ((6, within 17 1023 (length word)) ∷ (7, all_below 1024 word) ∷ (4, is_outer word) ∷ [])
  -- parity of outer data: 6, its length; 3, size of the buffer; 7, a symbol above 1,023
  pub encode_outer : (d buffer : List ℕ) →
      Refuses (outer_encoded d buffer) buffer ((6, within 1 1007 (length d)) ∷ (3, eqb (length buffer) 16) ∷ (7, all_below 1024 d) ∷ [])
  -- correction of an outer word: 6, its length; 3, size of the buffer; 7, a symbol above 1,023; 5, no code word within eight symbols
  pub correct_outer : (word buffer : List ℕ) →
      Refuses (without_count (outer_corrected word buffer)) buffer
      ((6, within 17 1023 (length word)) ∷ (3, eqb (length buffer) (length word)) ∷ (7, all_below 1024 word) ∷ (5, is_some (nearest is_outer 1024 8 word)) ∷ [])
  -- the answer is a count with the number 0, else a number alone
  pub outer_alone : (word buffer : List ℕ) → let a = (outer_corrected word buffer).0 in
      a ≡ cond (eqb (refusal_of a) 0) (Corrected (changed_of a)) (Refused (refusal_of a))
  -- check of an inner word: 6, its length; 4, no code word
  pub check_inner : (word : List ℕ) → inner_checked word ≡ first_broken ((6, eqb (length word) 255) ∷ (4, is_inner (bits_of word)) ∷ [])
  -- parity of inner data: 6, its length; 3, size of the buffer
  pub encode_inner : (d buffer : List ℕ) → Refuses (inner_encoded d buffer) buffer ((6, eqb (length d) 244) ∷ (3, eqb (length buffer) 11) ∷ [])
  -- correction of an inner word: 6, its length; 3, size of the buffer; 5, no code word within eight places
  pub correct_inner : (word buffer : List ℕ) →
      Refuses (without_counts (inner_corrected word buffer)) buffer
      ((6, eqb (length word) 255) ∷ (3, eqb (length buffer) 255) ∷ (5, is_some (nearest is_inner 2 8 (bits_of word))) ∷ [])
  -- the answer is two counts with the number 0, else a number alone
  pub inner_alone : (word buffer : List ℕ) → let a = (inner_corrected word buffer).0 in
      a ≡ cond (eqb (inner_refusal_of a) 0) (Inner.Corrected (data_changed_of a) (parity_changed_of a)) (Inner.Refused (inner_refusal_of a))

-- ---- demand 2: what encoder and extractor give, and the two-pass rule of the corrector

-- outer word w of the bits b has no permitted code word within eight symbols
abbrev pub Uncorrectable : (ℕ → ℕ) → ℕ → Type 0
Uncorrectable b w = (c : List ℕ) → is_permitted w c ≡ true → length c ≡ data_in w + 16 → 8 < apart (received_word b w) c

-- sixteen words that are permitted and within eight symbols of the outer words of the bits b
pub record Restored (b : ℕ → ℕ) (words : List (List ℕ)) : Type 0 where
  pub sixteen : length words ≡ 16
  pub long : (w : ℕ) → w < 16 → length (get_or words w []) ≡ data_in w + 16
  pub permitted : (w : ℕ) → w < 16 → is_permitted w (get_or words w []) ≡ true
  pub near : (w : ℕ) → w < 16 → apart (received_word b w) (get_or words w []) ≤ 8

pub record TwoPasses : Type 0 where
  -- inner pass: an inner word becomes the code word within eight places; where there is none it is left as received
  pub inner_near : (b : ℕ → ℕ) (k : ℕ) (c : List ℕ) → k < 64 → is_inner c ≡ true → apart (inner_word b k) c ≤ 8 → inner_word (inner_pass b) k ≡ c
  pub inner_lost : (b : ℕ → ℕ) (k : ℕ) → k < 64 → ((c : List ℕ) → is_inner c ≡ true → 8 < apart (inner_word b k) c) → inner_word (inner_pass b) k ≡ inner_word b k
  -- it tells which inner words it leaves as received: those without such a code word; and these are no code words after it, while the others are
  pub lost_far : (b : ℕ → ℕ) (k : ℕ) → is_lost b k ≡ true → (c : List ℕ) → is_inner c ≡ true → 8 < apart (inner_word b k) c
  pub lost_only : (b : ℕ → ℕ) (k : ℕ) → ((c : List ℕ) → is_inner c ≡ true → 8 < apart (inner_word b k) c) → is_lost b k ≡ true
  pub lost_wrong : (b : ℕ → ℕ) (k : ℕ) → k < 64 → is_inner (inner_word (inner_pass b) k) ≡ not (is_lost b k)
  -- outer pass: an outer word becomes the permitted code word within eight symbols; where there is none, nothing
  pub outer_near : (b : ℕ → ℕ) (w : ℕ) (c : List ℕ) → is_permitted w c ≡ true → length c ≡ data_in w + 16 → apart (received_word b w) c ≤ 8 →
      outer_restored b w ≡ some c
  pub outer_lost : (b : ℕ → ℕ) (w : ℕ) → Uncorrectable b w → outer_restored b w ≡ none
  -- on the result of the inner pass: if sixteen words can be restored, their frame is; there is one way
  pub restored : (block : List ℕ) (words : List (List ℕ)) → Restored (inner_pass (bit_at block)) words → restored_frame block ≡ some (frame_of_words words)
  -- and none is exactly where some outer word has no permitted code word within eight symbols
  pub none_restored : (block : List ℕ) (w : ℕ) → w < 16 → Uncorrectable (inner_pass (bit_at block)) w → restored_frame block ≡ none
  pub none_only : (block : List ℕ) → restored_frame block ≡ none → (w : ℕ) × (w < 16) × Uncorrectable (inner_pass (bit_at block)) w
  -- the answer is the restored frame with its report
  pub corrected : (block buffer : List ℕ) (words : List (List ℕ)) → length block ≡ 16320 → length buffer ≡ 16320 → Restored (inner_pass (bit_at block)) words →
      let frame = frame_of_words words in
      frame_corrected block buffer ≡ (0, data_counts block frame, parity_counts block frame, all_counted block frame, frame)
  -- or refusal 5, exactly where there is none
  pub uncorrectable : (block buffer : List ℕ) (w : ℕ) → length block ≡ 16320 → length buffer ≡ 16320 → w < 16 → Uncorrectable (inner_pass (bit_at block)) w →
      frame_corrected block buffer ≡ refused 5 buffer
  pub uncorrectable_only : (block buffer : List ℕ) → length block ≡ 16320 → length buffer ≡ 16320 → frame_corrected block buffer ≡ refused 5 buffer →
      (w : ℕ) × (w < 16) × Uncorrectable (inner_pass (bit_at block)) w
  -- and there is no third
  pub one_or_other : (block : List ℕ) →
      ((words : List (List ℕ)) × Restored (inner_pass (bit_at block)) words) ⊎ ((w : ℕ) × (w < 16) × Uncorrectable (inner_pass (bit_at block)) w)
  -- a restored frame is a frame that the encoder writes
  pub corrected_frame : (block buffer d p frame : List ℕ) (sum : ℕ) → frame_corrected block buffer ≡ (0, d, p, sum, frame) →
      (is_block frame ≡ true) × (is_frame frame ≡ true)
  -- of the report: the two counts of an inner word together are its distance from the restored one, and the sum is the number of all bits that differ
  pub counted : (block frame : List ℕ) (k : ℕ) → k < 64 →
      at (data_counts block frame) k + at (parity_counts block frame) k ≡ apart (inner_word (bit_at block) k) (inner_word (bit_at frame) k)
  pub summed : (block frame : List ℕ) → all_counted block frame ≡ wrong_bits block frame

pub record Demand2 : Type 0 where
  -- the encoder writes exactly the frame of the payload
  pub encoded : (payload buffer : List ℕ) → is_payload payload ≡ true → length buffer ≡ 16320 → frame_encoded payload buffer ≡ (0, frame_of payload)
  -- the check answers 0 for the frame of every payload
  pub checked : (payload : List ℕ) → is_payload payload ≡ true → frame_checked (frame_of payload) ≡ 0
  -- and for nothing else
  pub checked_only : (block : List ℕ) → frame_checked block ≡ 0 → (payload : List ℕ) × (is_payload payload ≡ true) × (frame_of payload ≡ block)
  -- the extractor returns the payload of every frame
  pub extracted : (payload buffer : List ℕ) → is_payload payload ≡ true → length buffer ≡ 15296 → payload_extracted (frame_of payload) buffer ≡ (0, payload)
  -- and refuses all else: where it answers 0 it has written a payload, and the block is its frame
  pub extracted_only : (block buffer payload : List ℕ) → payload_extracted block buffer ≡ (0, payload) → (is_payload payload ≡ true) × (frame_of payload ≡ block)
  -- the corrector follows the two-pass rule
  pub passes : TwoPasses

-- ---- demand 3

-- 1 where frame bit i is wrong
unfoldable pub wrong_at : List ℕ → List ℕ → ℕ → ℕ
wrong_at block frame i = differs (bit_at block i) (bit_at frame i)

-- wrong bits of inner word k, counted over its 2,040 places
unfoldable pub wrong_in : List ℕ → List ℕ → ℕ → ℕ
wrong_in block frame k = sum_to 2040 (λ p. wrong_at block frame (64 * p + k))

-- those of each inner word among its data places, 0 to 1,951; and among its parity places, 1,952 to 2,039
unfoldable pub wrong_data : List ℕ → List ℕ → List ℕ
wrong_data block frame = tabulate 64 (λ k. sum_to 1952 (λ p. wrong_at block frame (64 * p + k)))

unfoldable pub wrong_parity : List ℕ → List ℕ → List ℕ
wrong_parity block frame = tabulate 64 (λ k. sum_to 88 (λ p. wrong_at block frame (64 * (1952 + p) + k)))

-- how many symbols of outer word w have a wrong bit from an inner word that `lost` names; each counts once, and padding bits are never wrong
unfoldable pub lost_symbols : (ℕ → Bool) → List ℕ → List ℕ → ℕ → ℕ
lost_symbols lost block frame w =
    sum_to (data_in w + 16) (λ s. min 1 (sum_to 10 (λ j. received_bit (λ i. cond (lost (i % 64)) (wrong_at block frame i) 0) (7810 * w + 10 * s + j))))

-- the premise: the inner words that `lost` names lie beyond eight places of every inner code word, the others have at most eight wrong bits, and each outer
-- word has at most eight symbols with a wrong bit from a lost inner word
pub record Premise (lost : ℕ → Bool) (payload block : List ℕ) : Type 0 where
  pub lost_words_lem : (k : ℕ) → k < 64 → lost k ≡ true → (c : List ℕ) → is_inner c ≡ true → 8 < apart (inner_word (bit_at block) k) c
  pub within : (k : ℕ) → k < 64 → lost k ≡ false → wrong_in block (frame_of payload) k ≤ 8
  pub few : (w : ℕ) → w < 16 → lost_symbols lost block (frame_of payload) w ≤ 8

pub record Demand3 : Type 0 where
  -- the sent frame is restored
  pub sent_restored : (lost : ℕ → Bool) (payload block : List ℕ) → is_payload payload ≡ true → Premise lost payload block →
      restored_frame block ≡ some (frame_of payload)
  -- so it comes back, each of the 128 counts of the report is the number of wrong bits among the places that it counts, and their sum that of the block
  pub first_half : (lost : ℕ → Bool) (payload block buffer : List ℕ) → is_payload payload ≡ true → length block ≡ 16320 → length buffer ≡ 16320 →
      Premise lost payload block →
      let frame = frame_of payload in
      frame_corrected block buffer ≡ (0, wrong_data block frame, wrong_parity block frame, wrong_bits block frame, frame)
  -- frames of different payloads differ in at least 17 bits
  pub second_half : (p q : List ℕ) → is_payload p ≡ true → is_payload q ≡ true → (p ≡ q → ⊥) → 17 ≤ wrong_bits (frame_of p) (frame_of q)

pub record Demands : Type 0 where
  pub field_a : Field 10 1033
  pub field_b : Field 11 2053
  pub codes : Codes
  pub frames : FrameLaws
  pub first : Demand1
  pub second : Demand2
  pub third : Demand3
