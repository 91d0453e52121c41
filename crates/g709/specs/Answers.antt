-- What the entries on frames and on single rows answer: a refusal's number, or 0, and the output buffer ("lent space"). They are one answer about n rows; `long` is
-- the number of the refusal of a wrong length, which comes first.
use Rattle.std.specs.Prelude.{List, ℕ, ◌*◌, eqb, length}
use Rattle.fields.specs.Places.{apart}
use Rattle.words.specs.Corrections.{Correction, Corrected, Refused, refusal_of}
use Rattle.words.specs.Answers.{unless, answered, found, corrected}
use Rattle.g709.specs.Rows.{block_of, payload_of_rows, is_written, restored_block}

-- encoder ("maker"): the payload's length, `long`; the size of the buffer, 3
unfoldable pub block_encoded : ℕ → ℕ → List ℕ → List ℕ → ℕ × List ℕ
block_encoded n long payload buffer = answered (unless (eqb (length payload) (3824 * n)) long (unless (eqb (length buffer) (4080 * n)) 3 0)) (block_of n payload) buffer

-- checker: the block's length, `long`; 4, no frame, or no row
unfoldable pub block_checked : ℕ → ℕ → List ℕ → ℕ
block_checked n long block = unless (eqb (length block) (4080 * n)) long (unless (is_written n block) 4 0)

-- extractor ("reader"): `long`, 3, 4
unfoldable pub block_extracted : ℕ → ℕ → List ℕ → List ℕ → ℕ × List ℕ
block_extracted n long block buffer =
    answered (unless (eqb (length block) (4080 * n)) long (unless (eqb (length buffer) (3824 * n)) 3 (unless (is_written n block) 4 0))) (payload_of_rows n block) buffer

-- corrector ("mender"): `long`, 3, 5; the number of changed bytes and the restored block
unfoldable pub block_corrected : ℕ → ℕ → List ℕ → List ℕ → Correction × List ℕ
block_corrected n long block buffer =
    corrected Refused (unless (eqb (length block) (4080 * n)) long (unless (eqb (length buffer) (4080 * n)) 3 0)) buffer
    (found Refused (λ c. Corrected (apart block c)) (λ c. c) buffer (restored_block n block))

-- frames, of four rows: 1, the payload is not 15,296 bytes; 2, the block is not 16,320 bytes
abbrev pub rows_encoded : List ℕ → List ℕ → ℕ × List ℕ
rows_encoded = block_encoded 4 1

abbrev pub rows_checked : List ℕ → ℕ
rows_checked = block_checked 4 2

abbrev pub rows_extracted : List ℕ → List ℕ → ℕ × List ℕ
rows_extracted = block_extracted 4 2

abbrev pub rows_corrected : List ℕ → List ℕ → Correction × List ℕ
rows_corrected = block_corrected 4 2

-- a single row: 8, the row is not 4,080 bytes, or the data for one not 3,824
abbrev pub row_encoded : List ℕ → List ℕ → ℕ × List ℕ
row_encoded = block_encoded 1 8

abbrev pub row_checked : List ℕ → ℕ
row_checked = block_checked 1 8

abbrev pub row_extracted : List ℕ → List ℕ → ℕ × List ℕ
row_extracted = block_extracted 1 8

abbrev pub row_corrected : List ℕ → List ℕ → Correction × List ℕ
row_corrected = block_corrected 1 8

-- for the C host, to which no count is handed out: number and buffer
unfoldable pub without_changes : Correction × List ℕ → ℕ × List ℕ
without_changes a = (refusal_of a.0, a.1)
