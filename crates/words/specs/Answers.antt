-- What the entries answer: a refusal's number, or 0, and the output buffer ("lent space").
use Rattle.std.specs.Prelude.{Bool, true, ◌&&◌, cond, List, ℕ, eqb, leb, length}
use Rattle.std.proofs.Math.Option.{Option, none, some}
use Rattle.fields.specs.Places.{at, all_below, apart_between, apart}
use Rattle.words.specs.Corrections.{Correction, Corrected, Refused}
use Rattle.words.specs.InnerCorrections.{InnerCorrection}
use Rattle.words.specs.InnerCorrections as Inner
use Rattle.words.specs.Bits.{bits_of, bytes_of}
use Rattle.words.specs.OuterCode.{is_outer, outer_parity}
use Rattle.words.specs.InnerCode.{is_inner, inner_parity}
use Rattle.words.specs.Nearest.{nearest}
pub use Rattle.words.specs.Corrections.{number, refusal_number, correction_of, refusal_of, changed_of}
pub use Rattle.words.specs.InnerCorrections.{inner_correction_of, inner_refusal_of, data_changed_of, parity_changed_of}

-- the number n unless the test holds; else what follows
abbrev pub unless : Bool → ℕ → ℕ → ℕ
unless test n next = cond test next n

-- refusals of a single word, in their order: 6, its length; 3, the size of the buffer; 7, its symbols
unfoldable pub refusal : Bool → Bool → Bool → ℕ
refusal long fits symbols = unless long 6 (unless fits 3 (unless symbols 7 0))

-- n is at least low and at most high
unfoldable pub within : ℕ → ℕ → ℕ → Bool
within low high n = leb low n && leb n high

-- a refusal leaves the buffer as it was; else the answer is in it
unfoldable pub answered : ℕ → List ℕ → List ℕ → ℕ × List ℕ
answered n answer buffer = (n, cond (eqb n 0) answer buffer)

-- the first of two numbers that is not 0
unfoldable pub first_of : ℕ → ℕ → ℕ
first_of n next = cond (eqb n 0) next n

-- outer words have 17 to 1,023 symbols, their data 1 to 1,007; 4: no code word
unfoldable pub outer_checked : List ℕ → ℕ
outer_checked w = first_of (refusal (within 17 1023 (length w)) true (all_below 1024 w)) (unless (is_outer w) 4 0)

unfoldable pub outer_encoded : List ℕ → List ℕ → ℕ × List ℕ
outer_encoded d buffer = answered (refusal (within 1 1007 (length d)) (eqb (length buffer) 16) (all_below 1024 d)) (outer_parity d) buffer

-- inner words have 255 bytes, their data 244, their parity 11
unfoldable pub inner_checked : List ℕ → ℕ
inner_checked w = first_of (refusal (eqb (length w) 255) true true) (unless (is_inner (bits_of w)) 4 0)

unfoldable pub inner_encoded : List ℕ → List ℕ → ℕ × List ℕ
inner_encoded d buffer = answered (refusal (eqb (length d) 244) (eqb (length buffer) 11) true) (bytes_of 11 (at (inner_parity (bits_of d)))) buffer

-- the answer, and the buffer: the code word that was found, with its changes; or refusal 5, none within the radius ("beyond reach")
unfoldable pub found : {A : Type 0} → (ℕ → A) → (List ℕ → A) → (List ℕ → List ℕ) → List ℕ → Option (List ℕ) → A × List ℕ
found refused changes content buffer none = (refused 5, buffer)
found refused changes content buffer (some c) = (changes c, content c)

-- the refusal n, if it is not 0; else the answer
unfoldable pub corrected : {A : Type 0} → (ℕ → A) → ℕ → List ℕ → A × List ℕ → A × List ℕ
corrected refused n buffer answer = cond (eqb n 0) answer (refused n, buffer)

-- the outer code word within eight symbols
unfoldable pub outer_corrected : List ℕ → List ℕ → Correction × List ℕ
outer_corrected w buffer =
    corrected Refused (refusal (within 17 1023 (length w)) (eqb (length buffer) (length w)) (all_below 1024 w)) buffer
    (found Refused (λ c. Corrected (apart w c)) (λ c. c) buffer (nearest is_outer 1024 8 w))

-- the changes of an inner word: at places below 1,952, the data places, and from there on, the parity places
unfoldable pub inner_changes : List ℕ → List ℕ → InnerCorrection
inner_changes w c = Inner.Corrected (apart_between 0 1952 w c) (apart_between 1952 2040 w c)

-- the inner code word within eight places
unfoldable pub inner_corrected : List ℕ → List ℕ → InnerCorrection × List ℕ
inner_corrected w buffer =
    corrected Inner.Refused (refusal (eqb (length w) 255) (eqb (length buffer) 255) true) buffer
    (found Inner.Refused (inner_changes (bits_of w)) (λ c. bytes_of 255 (at c)) buffer (nearest is_inner 2 8 (bits_of w)))
