-- What is proved of G.709 frames and of single rows: of blocks of n rows, for any n.
use Rattle.std.specs.Prelude.{◌≡◌, true, false, List, [], ◌∷◌, ℕ, ◌+◌, ◌*◌, ◌/◌, ◌%◌, ◌≤◌, ◌<◌, length}
use Rattle.fields.specs.Field.{Field, PinnedC}
use Rattle.fields.specs.Places.{at, sum_to, apart}
use Rattle.words.specs.Corrections.{Corrected, Refused}
use Rattle.words.specs.ReedSolomon.{generator_of}
use Rattle.words.specs.Codes.{ReedSolomon}
use Rattle.g709.specs.Rows.{is_payload_of, is_block_of, is_byte_word, byte_word, block_of, payload_of_rows, is_written, received_bytes}
use Rattle.g709.specs.Answers.{block_encoded, block_checked, block_extracted, block_corrected}

-- word w of the block has no code word within eight bytes
abbrev pub Beyond : List ℕ → ℕ → Type 0
Beyond block w = (c : List ℕ) → is_byte_word c ≡ true → length c ≡ 255 → 8 < apart (received_bytes block w) c

-- the sent block: each word of the block lies within eight bytes of its own
abbrev pub Within : ℕ → List ℕ → List ℕ → Type 0
Within n block sent = (w : ℕ) → w < 16 * n → apart (received_bytes block w) (received_bytes sent w) ≤ 8

pub record RowLaws (n : ℕ) : Type 0 where
  -- the payload of the block of a payload is that payload
  pub payload_back : (p : List ℕ) → is_payload_of n p ≡ true → payload_of_rows n (block_of n p) ≡ p
  -- the block of a payload is accepted; and an accepted block is the block of the payload in it: the encoder writes no other
  pub written_accepted : (p : List ℕ) → is_payload_of n p ≡ true → (is_block_of n (block_of n p) ≡ true) × (is_written n (block_of n p) ≡ true)
  pub written_only : (b : List ℕ) → is_block_of n b ≡ true → is_written n b ≡ true → (is_payload_of n (payload_of_rows n b) ≡ true) × (block_of n (payload_of_rows n b) ≡ b)
  -- byte s of word 16 r + k is byte 16 s + k of row r; byte j of row r is byte j div 16 of word 16 r + j mod 16
  pub word_to_row : (b : List ℕ) (r k s : ℕ) → k < 16 → s < 255 → at (received_bytes b (16 * r + k)) s ≡ at b (4080 * r + (16 * s + k))
  pub row_to_word : (b : List ℕ) (r j : ℕ) → j < 4080 → at b (4080 * r + j) ≡ at (received_bytes b (16 * r + j % 16)) (j / 16)
  -- row r begins with payload bytes 3,824 r to 3,824 r + 3,823
  pub row_begins : (p : List ℕ) (r j : ℕ) → r < n → j < 3824 → at (block_of n p) (4080 * r + j) ≡ at p (3824 * r + j)
  -- each word of the block of a payload is the code word of its data
  pub words : (p : List ℕ) (w : ℕ) → is_payload_of n p ≡ true → w < 16 * n → (received_bytes (block_of n p) w ≡ byte_word p w) × (is_byte_word (byte_word p w) ≡ true)
  -- a block is accepted just where its words are all code words
  pub code_written : (b : List ℕ) → is_block_of n b ≡ true → ((w : ℕ) → w < 16 * n → is_byte_word (received_bytes b w) ≡ true) → is_written n b ≡ true
  pub written_code : (b : List ℕ) → is_block_of n b ≡ true → is_written n b ≡ true → (w : ℕ) → w < 16 * n → is_byte_word (received_bytes b w) ≡ true
  -- the bytes in which two blocks differ are those in which their words do
  pub apart_words : (a b : List ℕ) → length a ≡ 4080 * n → apart a b ≡ sum_to (16 * n) (λ w. apart (received_bytes a w) (received_bytes b w))
  -- blocks of different payloads differ in at least 17 bytes
  pub far : (p q : List ℕ) → is_payload_of n p ≡ true → is_payload_of n q ≡ true → (p ≡ q → ⊥) → 17 ≤ apart (block_of n p) (block_of n q)
  -- within eight bytes of the sent block in each word, correction gives the sent block and the number of bytes that differ
  pub corrected : (long : ℕ) (p block buffer : List ℕ) → is_payload_of n p ≡ true → length block ≡ 4080 * n → length buffer ≡ 4080 * n → Within n block (block_of n p) →
      block_corrected n long block buffer ≡ (Corrected (apart block (block_of n p)), block_of n p)
  -- a corrected block is one that the encoder writes, each of its words within eight bytes of that received, and the number is that of the bytes that differ
  pub corrected_only : (long changed : ℕ) (block buffer out : List ℕ) → length block ≡ 4080 * n → length buffer ≡ 4080 * n →
      block_corrected n long block buffer ≡ (Corrected changed, out) → (is_block_of n out ≡ true) × (is_written n out ≡ true) × Within n block out × (changed ≡ apart block out)
  -- and the answer is refusal 5 exactly where some word has no code word within eight bytes
  pub uncorrectable : (long : ℕ) (block buffer : List ℕ) (w : ℕ) → length block ≡ 4080 * n → length buffer ≡ 4080 * n → w < 16 * n → Beyond block w →
      block_corrected n long block buffer ≡ (Refused 5, buffer)
  pub uncorrectable_only : (long : ℕ) (block buffer : List ℕ) → length block ≡ 4080 * n → length buffer ≡ 4080 * n → block_corrected n long block buffer ≡ (Refused 5, buffer) →
      (w : ℕ) × (w < 16 * n) × Beyond block w

-- the answers about n rows, where `long`, above 0, is the number of a wrong length: that refusal comes first, then 3, then 4; a refusal leaves the buffer as it was.
-- The corrector's 5, and what it corrects, is above
pub record RowRefusals (n long : ℕ) : Type 0 where
  pub encode_length : (p o : List ℕ) → (length p ≡ 3824 * n → ⊥) → block_encoded n long p o ≡ (long, o)
  pub encode_space : (p o : List ℕ) → length p ≡ 3824 * n → (length o ≡ 4080 * n → ⊥) → block_encoded n long p o ≡ (3, o)
  pub encoded : (p o : List ℕ) → length p ≡ 3824 * n → length o ≡ 4080 * n → block_encoded n long p o ≡ (0, block_of n p)
  pub check_length : (b : List ℕ) → (length b ≡ 4080 * n → ⊥) → block_checked n long b ≡ long
  pub checked : (b : List ℕ) → length b ≡ 4080 * n → is_written n b ≡ true → block_checked n long b ≡ 0
  pub check_other : (b : List ℕ) → length b ≡ 4080 * n → is_written n b ≡ false → block_checked n long b ≡ 4
  pub extract_length : (b o : List ℕ) → (length b ≡ 4080 * n → ⊥) → block_extracted n long b o ≡ (long, o)
  pub extract_space : (b o : List ℕ) → length b ≡ 4080 * n → (length o ≡ 3824 * n → ⊥) → block_extracted n long b o ≡ (3, o)
  pub extracted : (b o : List ℕ) → length b ≡ 4080 * n → length o ≡ 3824 * n → is_written n b ≡ true → block_extracted n long b o ≡ (0, payload_of_rows n b)
  pub extract_other : (b o : List ℕ) → length b ≡ 4080 * n → length o ≡ 3824 * n → is_written n b ≡ false → block_extracted n long b o ≡ (4, o)
  pub correct_length : (b o : List ℕ) → (length b ≡ 4080 * n → ⊥) → block_corrected n long b o ≡ (Refused long, o)
  pub correct_space : (b o : List ℕ) → length b ≡ 4080 * n → (length o ≡ 4080 * n → ⊥) → block_corrected n long b o ≡ (Refused 3, o)

-- the record to open first
pub record OlderFrames : Type 0 where
  -- field C, and products and the generator's coefficients that tell it from the fields of other polynomials
  pub field_c : Field 8 285
  pub pinned : PinnedC
  pub generator : generator_of 8 285 0 16 ≡ 1 ∷ 59 ∷ 13 ∷ 104 ∷ 189 ∷ 68 ∷ 209 ∷ 30 ∷ 8 ∷ 163 ∷ 65 ∷ 41 ∷ 229 ∷ 98 ∷ 50 ∷ 36 ∷ 59 ∷ []
  -- the codes of both families, with all that is proved of such a code: generator, parity, distance, decoding
  pub outer_code : ReedSolomon 10 1033 0 16
  pub byte_code : ReedSolomon 8 285 0 16
  -- different code words of one length differ in at least 17 bytes: the distance of such codes, with its parameters
  pub byte_distance : (c d : List ℕ) → is_byte_word c ≡ true → is_byte_word d ≡ true → length c ≡ length d → length c < 256 → (c ≡ d → ⊥) → 17 ≤ apart c d
  pub row : RowLaws 1
  pub frame : RowLaws 4
  -- a row's wrong length is 8; of frames the payload's is 1 and the block's 2
  pub row_refusals : RowRefusals 1 8
  pub payload_refusals : RowRefusals 4 1
  pub frame_refusals : RowRefusals 4 2
