-- What the entries answer: a refusal's number, or 0, and the output buffer ("lent space").
use Rattle.std.specs.Prelude.{Bool, cond, List, ℕ, eqb, length}
use Rattle.std.proofs.Math.Option.{Option, none, some}
use Rattle.fields.specs.Lists.{tabulate}
use Rattle.fields.specs.Places.{apart}
use Rattle.words.specs.Answers.{unless, answered}
pub use Rattle.words.specs.Answers.{number, refusal_number}
use Rattle.frames.specs.Frames.{frame_of, payload_of}
use Rattle.frames.specs.Correction.{restored_frame, data_counts, parity_counts, all_counted}

-- a block that differs nowhere from the frame of the payload that stands in it. No other block is written for any payload (`written_accepted`)
unfoldable pub is_frame : List ℕ → Bool
is_frame block = eqb (apart (frame_of (payload_of block)) block) 0

-- encoder ("maker"): 1, the payload's length; 3, the size of the buffer
unfoldable pub frame_encoded : List ℕ → List ℕ → ℕ × List ℕ
frame_encoded payload buffer = answered (unless (eqb (length payload) 15296) 1 (unless (eqb (length buffer) 16320) 3 0)) (frame_of payload) buffer

-- checker: 2, the block's length; 4, no frame
unfoldable pub frame_checked : List ℕ → ℕ
frame_checked block = unless (eqb (length block) 16320) 2 (unless (is_frame block) 4 0)

-- extractor ("reader"): 2, 3, 4
unfoldable pub payload_extracted : List ℕ → List ℕ → ℕ × List ℕ
payload_extracted block buffer =
    answered (unless (eqb (length block) 16320) 2 (unless (eqb (length buffer) 15296) 3 (unless (is_frame block) 4 0))) (payload_of block) buffer

-- what the corrector answers: a number; the report's 64 counts of data places, its 64 of parity places, and the sum of all; and the buffer. A refusal carries its
-- number and nothing else
abbrev pub CorrectorAnswer : Type 0
CorrectorAnswer = ℕ × List ℕ × List ℕ × ℕ × List ℕ

unfoldable pub no_counts : List ℕ
no_counts = tabulate 64 (λ k. 0)

unfoldable pub refused : ℕ → List ℕ → CorrectorAnswer
refused n buffer = (n, no_counts, no_counts, 0, buffer)

-- what is answered where a frame was restored, or none: the frame with its report; or 5, uncorrectable ("beyond reach")
unfoldable pub reported : List ℕ → List ℕ → Option (List ℕ) → CorrectorAnswer
reported block buffer none = refused 5 buffer
reported block buffer (some frame) = (0, data_counts block frame, parity_counts block frame, all_counted block frame, frame)

-- the corrector's answer: the refusal n that is met before the passes, if it is not 0; else what is answered to what they restored
unfoldable pub concluded : ℕ → List ℕ → List ℕ → Option (List ℕ) → CorrectorAnswer
concluded n block buffer restored = cond (eqb n 0) (reported block buffer restored) (refused n buffer)

-- corrector ("mender"): 2, 3, 5
unfoldable pub frame_corrected : List ℕ → List ℕ → CorrectorAnswer
frame_corrected block buffer = concluded (unless (eqb (length block) 16320) 2 (unless (eqb (length buffer) 16320) 3 0)) block buffer (restored_frame block)

-- for the C host, to which no report is handed out: number and buffer
unfoldable pub without_report : CorrectorAnswer → ℕ × List ℕ
without_report a = (a.0, a.4)
