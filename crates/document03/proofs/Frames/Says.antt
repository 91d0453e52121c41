-- Document 03 on the calls that encode, check, extract and correct, and its record of what is proved: its definitions as it writes them, but that the
-- three fields of its struct `Report` are here a number, a list and a number: number, counts and sum. Assumes nothing.
use mathlib.Core.Path.{◌≡◌}
use mathlib.Core.Logic.{◌⊎◌}
use mathlib.Core.Bool.{Bool, true, not}
use mathlib.Core.List.{List}
use Prim.Native.Nat.{ℕ, zero, suc}
use lib.Dec.{eqb}
use lib.ListN.{length, replicate}
use Rattle.document03.proofs.Fields.{pick, Fields}
use Rattle.document03.proofs.Words.Statements.{when, same, Codes}
use Rattle.document03.proofs.Words.Says.{first_of, bits_of, bytes_of}
use Rattle.document03.proofs.Frames.Statements.{frame_of, payload_of, all_bytes}
use Rattle.document03.proofs.Frames.Menders.{Mends, Beyond, report_of, total, TwoPasses, Demand3}

-- payloads of 15,296 bytes, blocks of 16,320
abbrev pub payload_long : ℕ
payload_long = 15296

abbrev pub block_long : ℕ
block_long = 16320

abbrev pub frame_bytes : List ℕ → List ℕ
frame_bytes p = bytes_of (frame_of p)

-- making: 1, 3
abbrev pub MakeSays : List ℕ → List ℕ → List ℕ → ℕ → Type 0
MakeSays p o o' r = let f = first_of (when (not (eqb (length p) payload_long)) 1) (when (not (eqb (length o) block_long)) 3) in (r ≡ f) × (o' ≡ pick (eqb f 0) (frame_bytes p) o)

-- a block that the maker writes for some payload: for the one that it holds
abbrev pub is_frame : List ℕ → Bool
is_frame b = same (frame_bytes (payload_of (bits_of b))) b

abbrev pub CheckSays : List ℕ → ℕ → Type 0
CheckSays b r = r ≡ first_of (when (not (eqb (length b) block_long)) 2) (when (not (is_frame b)) 4)

abbrev pub ReadSays : List ℕ → List ℕ → List ℕ → ℕ → Type 0
ReadSays b o o' r = let f = first_of (when (not (eqb (length b) block_long)) 2) (first_of (when (not (eqb (length o) payload_long)) 3) (when (not (is_frame b)) 4)) in (r ≡ f) × (o' ≡ pick (eqb f 0) (payload_of (bits_of b)) o)

-- mending: 2, 3, 5; the report's counts and their sum
abbrev pub no_counts : List ℕ
no_counts = replicate 64 0

abbrev pub mend_fault : List ℕ → List ℕ → ℕ
mend_fault b o = first_of (when (not (eqb (length b) block_long)) 2) (when (not (eqb (length o) block_long)) 3)

abbrev pub Restored : List ℕ → List ℕ → ℕ → List ℕ → ℕ → Type 0
Restored b o' number counts sum = (f : List ℕ) × Mends (bits_of b) f × (number ≡ 0) × (o' ≡ bytes_of f) × (counts ≡ report_of (bits_of b) f) × (sum ≡ total (report_of (bits_of b) f))

abbrev pub Refused : ℕ → List ℕ → List ℕ → ℕ → List ℕ → ℕ → Type 0
Refused n o o' number counts sum = (number ≡ n) × (o' ≡ o) × (counts ≡ no_counts) × (sum ≡ 0)

abbrev pub MendWith : ℕ → List ℕ → List ℕ → List ℕ → ℕ → List ℕ → ℕ → Type 0
MendWith zero b o o' number counts sum = Restored b o' number counts sum ⊎ (Beyond (bits_of b) × Refused 5 o o' number counts sum)
MendWith (suc f) b o o' number counts sum = Refused (suc f) o o' number counts sum

abbrev pub MendSays : List ℕ → List ℕ → List ℕ → ℕ → List ℕ → ℕ → Type 0
MendSays b o o' number counts sum = MendWith (mend_fault b o) b o o' number counts sum

pub record Demands : Type 0 where
  pub fields : Fields
  pub codes : Codes
  pub passes : TwoPasses
  pub reads_back : (p : List ℕ) → length p ≡ payload_long → all_bytes p ≡ true → payload_of (bits_of (frame_bytes p)) ≡ p
  pub third : Demand3
