-- Refusals and their numbers, and what the correction of Reed-Solomon words answers.
use Rattle.std.specs.Prelude.{ℕ, Result, Ok, Err}
use Rattle.words.specs.declared.Refusal.{Refusal}
use Rattle.words.specs.declared.Refusal.TheVariants.{PayloadLength, BlockLength, BufferSize, NoCodeWord, Uncorrectable, WordLength, Symbol, RowLength}

-- the number of each refusal
abbrev pub number : Refusal → ℕ
number PayloadLength = 1
number BlockLength = 2
number BufferSize = 3
number NoCodeWord = 4
number Uncorrectable = 5
number WordLength = 6
number Symbol = 7
number RowLength = 8

-- document 01's number for each case of an entry's answer: 0 or the refusal's
abbrev pub refusal_number : {A : Type 0} → Result A Refusal → ℕ
refusal_number (Ok a) = 0
refusal_number (Err refusal) = number refusal

-- how many symbols were changed, or the refusal's number
pub data Correction : Type 0 where
  Corrected : ℕ → Correction
  Refused : ℕ → Correction

abbrev pub correction_of : Result ℕ Refusal → Correction
correction_of (Ok changed) = Corrected changed
correction_of (Err refusal) = Refused (number refusal)

-- document 01's numbers for each case of a correction's answer: 0 or the refusal's number, and how many symbols of an outer word were changed
abbrev pub refusal_of : Correction → ℕ
refusal_of (Corrected changed) = 0
refusal_of (Refused number) = number

abbrev pub changed_of : Correction → ℕ
changed_of (Corrected changed) = changed
changed_of (Refused number) = 0
