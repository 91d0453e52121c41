-- What the correction of an inner word answers, where changed data places and changed parity places are counted apart.
use Rattle.std.specs.Prelude.{ℕ, Result, Ok, Err}
use Rattle.words.specs.declared.InnerChanges.{InnerChanges}
use Rattle.words.specs.declared.Refusal.{Refusal}
use Rattle.words.specs.Corrections as refusals

-- how many data places and how many parity places were changed, or the refusal's number
pub data InnerCorrection : Type 0 where
  Corrected : ℕ → ℕ → InnerCorrection
  Refused : ℕ → InnerCorrection

abbrev pub inner_correction_of : Result InnerChanges Refusal → InnerCorrection
inner_correction_of (Ok changes) = Corrected changes.data changes.parity
inner_correction_of (Err refusal) = Refused (refusals.number refusal)

-- document 01's numbers for each case: 0 or the refusal's number, and the changed places
abbrev pub inner_refusal_of : InnerCorrection → ℕ
inner_refusal_of (Corrected d p) = 0
inner_refusal_of (Refused number) = number

abbrev pub data_changed_of : InnerCorrection → ℕ
data_changed_of (Corrected d p) = d
data_changed_of (Refused number) = 0

abbrev pub parity_changed_of : InnerCorrection → ℕ
parity_changed_of (Corrected d p) = p
parity_changed_of (Refused number) = 0
