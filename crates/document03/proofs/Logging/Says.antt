-- Document 03 on the tally and the worst list: its definitions as it writes them, but that its structs are ours: `Tally` with taken, beyond and mended is
-- `Counters` with frames, uncorrectable and bits, the number of a `Report` is its refusal, and its counts are data plus parity. `WithoutTies` is not its own: document
-- 02, A.2, has another order of equal counts. Assumes nothing.
use mathlib.Core.Path.{◌≡◌}
use mathlib.Core.Bool.{◌&&◌, ◌||◌, not}
use mathlib.Core.List.{List, [], ◌∷◌}
use Prim.Native.Nat.{ℕ, zero, suc, ◌+◌, ◌<◌}
use lib.Dec.{eqb, ltb, leb}
use lib.ListN.{get_or}
use Rattle.frames.specs.declared.Report.{Report}
use Rattle.logging.specs.declared.Counters.{Counters}
use Rattle.document03.proofs.Counts.{together}
use Rattle.document03.proofs.Fields.{pick, is_in}
use Rattle.document03.proofs.Words.Statements.{when}

-- the tally: frames taken, blocks beyond reach, bits mended; each stops at the largest
abbrev pub top32 : ℕ
top32 = 4294967295

abbrev pub lesser : ℕ → ℕ → ℕ
lesser a b = pick (leb a b) a b

abbrev pub ClearSays : Counters → Type 0
ClearSays t = (t.frames ≡ 0) × (t.uncorrectable ≡ 0) × (t.bits ≡ 0)

abbrev pub CountSays : Counters → Report → Counters → Type 0
CountSays t r u = let ok = eqb r.refusal 0 in (u.frames ≡ lesser top32 (t.frames + when ok 1)) × (u.uncorrectable ≡ lesser top32 (t.uncorrectable + when (eqb r.refusal 5) 1)) × (u.bits ≡ lesser top32 (t.bits + pick ok r.sum 0))

-- the worst list: up to eight inner words with a count above 0, largest first, equal counts by lower number; empty places hold 64
abbrev pub worst_from : ℕ → ℕ → ℕ → List ℕ → List ℕ → ℕ
worst_from zero k best cs taken = best
worst_from (suc n) k best cs taken = worst_from n (suc k) (pick (not (is_in k taken) && (leb 1 (get_or cs k 0) && (eqb best 64 || ltb (get_or cs best 0) (get_or cs k 0)))) k best) cs taken

abbrev pub worst_of : ℕ → List ℕ → List ℕ → List ℕ
worst_of zero cs taken = []
worst_of (suc n) cs taken = let w = worst_from 64 0 64 cs taken in w ∷ worst_of n cs (w ∷ taken)

abbrev pub counts : Report → List ℕ
counts r = together r.«data» r.parity

abbrev pub WorstSays : Report → List ℕ → Type 0
WorstSays r ws = ws ≡ worst_of 8 (counts r) []

-- the counts above 0 are different
abbrev pub WithoutTies : List ℕ → Type 0
WithoutTies cs = (j k : ℕ) → j < k → k < 64 → 0 < get_or cs k 0 → get_or cs j 0 ≡ get_or cs k 0 → ⊥
