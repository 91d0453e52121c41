-- Answers of more than one number, packed into one: the refusal's number or 0, plus 256 times the second number, plus 65,536 times the third of an inner word.
use Rattle.std.specs.Prelude.{List, ℕ, ◌+◌, ◌*◌}
use Rattle.fields.specs.Steps.Buffers.{copied}
use Rattle.words.specs.Corrections.{Correction, refusal_of, changed_of}
use Rattle.words.specs.InnerCorrections.{InnerCorrection, inner_refusal_of, data_changed_of, parity_changed_of}
use Rattle.frames.specs.Answers.{CorrectorAnswer}

unfoldable pub packed : ℕ → ℕ → ℕ
packed number second = number + 256 * second

-- correction of an outer word, or of a G.709 frame or row: number and changes, and the buffer
unfoldable pub packed_word : Correction × List ℕ → ℕ × List ℕ
packed_word a = (packed (refusal_of a.0) (changed_of a.0), a.1)

-- correction of an inner word: number, 256 times its changed data places, 65,536 times its changed parity places, and the buffer
unfoldable pub packed_inner : InnerCorrection × List ℕ → ℕ × List ℕ
packed_inner a = (packed (inner_refusal_of a.0) (packed (data_changed_of a.0) (parity_changed_of a.0)), a.1)

-- correction of a frame: number and sum, the buffer, and the counts of data places and those of parity places, each if there is place for exactly as many
unfoldable pub packed_frame : CorrectorAnswer → List ℕ → List ℕ → ℕ × List ℕ × List ℕ × List ℕ
packed_frame a d p = (packed a.0 a.3, a.4, copied a.1 d, copied a.2 p)
