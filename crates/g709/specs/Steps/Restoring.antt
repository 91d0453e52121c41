-- How a block is restored word by word, in a copy of it.
use Rattle.std.specs.Prelude.{◌≡◌, Bool, true, false, cond, List, ◌⊎◌, ℕ, ◌+◌, ◌*◌, ◌/◌, ◌%◌, ◌≤◌, ◌<◌, eqb, length, Option, Some, None}
use Rattle.std.proofs.Math.Option.{none, some}
use Rattle.fields.specs.Lists.{tabulate}
use Rattle.fields.specs.Elements.{powers_c, exponents_c}
use Rattle.fields.specs.Places.{at, all_below, sum_to, apart}
use Rattle.words.specs.Corrections.{Correction, Corrected, Refused}
use Rattle.words.specs.Answers.{found}
use Rattle.decoding.specs.Steps.ByTables.{root_values}
use Rattle.decoding.specs.declared.error_values.Errors.{Errors}
use Rattle.decoding.specs.Steps.Decoder.{Decoded, with_errors}
use Rattle.g709.specs.Rows.{received_bytes, bytes_restored}

-- the word that byte i of a block belongs to, and its place there
unfoldable pub word_of : ℕ → ℕ
word_of i = 16 * (i / 4080) + i % 16

unfoldable pub byte_place : ℕ → ℕ
byte_place i = i % 4080 / 16

-- the bytes at the sixteen distances from place k on: a column for each
unfoldable pub lane_of : List ℕ → ℕ → List ℕ
lane_of rest k = tabulate 16 (λ i. at rest (16 * i + k))

-- where the places of a word stand in a block, the word's first byte at `from`; and the values added there
unfoldable pub standing : ℕ → List ℕ → List ℕ
standing from places = tabulate 8 (λ l. from + 16 * at places l)

unfoldable pub values_added : List ℕ → ℕ → List ℕ → List ℕ → ℕ → List ℕ
values_added o from places values k = with_errors (at o) (standing from places) values k (length o)

-- the first k values are bytes
pub record ByteValues (values : List ℕ) (k : ℕ) : Type 0 where
  pub small : (l : ℕ) → l < k → at values l < 256

-- a block with c in the place of its word w
unfoldable pub word_stored : List ℕ → ℕ → List ℕ → List ℕ
word_stored o w c = tabulate (length o) (λ i. cond (eqb (word_of i) w) (at c (byte_place i)) (at o i))

-- what is answered for word w of a block, and the block with the code word in its place
unfoldable pub word_corrected : List ℕ → ℕ → Correction × List ℕ
word_corrected o w = found Refused (λ c. Corrected (apart (received_bytes o w) c)) (word_stored o w) o (bytes_restored o w)

-- a count of changed bytes as an answer: none is the refusal of what has no code word near it; and the count alone
abbrev pub answer_of : Option ℕ → Correction
answer_of (Some n) = Corrected n
answer_of None = Refused 5

abbrev pub count_found : Option ℕ → ℕ
count_found (Some n) = n
count_found None = 0

-- what the decoder found in a word of bytes
pub record WordErrors (word : List ℕ) (e : Errors) : Type 0 where
  pub bytes : all_below 256 word ≡ true
  pub decoded : Decoded powers_c exponents_c (root_values powers_c exponents_c word) 255 e.places.at e.values e.places.count e.left

-- what next_word rests on, as long as all words before had a code word near them: t are the word's syndromes
pub record Remains (reached : Bool) (t word : List ℕ) : Type 0 where
  pub values : reached ≡ true → t ≡ root_values powers_c exponents_c word
  pub bytes : reached ≡ true → all_below 256 word ≡ true

-- how many words of row r go by themselves: the first of the block
unfoldable pub alone : ℕ → ℕ
alone r = cond (eqb r 0) 1 0

-- a step over word w of the block o: it is restored, and its changes are counted; or it has no code word near it, or one before it had none
pub record WordDone (o : List ℕ) (w : ℕ) (reached : Bool) (changed : ℕ) (next : List ℕ) (still : Bool) (sum : ℕ) : Type 0 where
  pub long : length next ≡ length o
  pub found : still ≡ true → (c : List ℕ) × (reached ≡ true) × (bytes_restored o w ≡ some c) × (next ≡ word_stored o w c) × (sum ≡ changed + apart (received_bytes o w) c)
  pub lost : still ≡ false → (reached ≡ false) ⊎ (bytes_restored o w ≡ none)

-- the first w words of the block b are restored in its copy o, and so many bytes were changed
pub record RestoredTo (b : List ℕ) (w : ℕ) (o : List ℕ) (changed : ℕ) : Type 0 where
  pub words : ℕ → List ℕ
  pub restored : (v : ℕ) → v < w → bytes_restored b v ≡ some (words v)
  pub done : (i : ℕ) → i < length b → word_of i < w → at o i ≡ at (words (word_of i)) (byte_place i)
  pub rest : (i : ℕ) → i < length b → w ≤ word_of i → at o i ≡ at b i
  pub count : changed ≡ sum_to w (λ v. apart (received_bytes b v) (words v))

-- the same, as long as all words had a code word near them
pub record Restoring (b : List ℕ) (w : ℕ) (o : List ℕ) (reached : Bool) (changed : ℕ) : Type 0 where
  pub room : length b ≤ length o
  pub few : changed ≤ 8 * w
  pub so_far : reached ≡ true → RestoredTo b w o changed
  pub lost : reached ≡ false → (v : ℕ) × (v < w) × (bytes_restored b v ≡ none)
