-- Counters ("tally") of the corrector's answers: frames taken, uncorrectable blocks ("beyond reach"), bits corrected ("mended").
use Rattle.std.specs.Prelude.{cond, List, [], ◌∷◌, ℕ, ◌+◌, min, eqb}
use Rattle.frames.specs.declared.Report.{Report}
use Rattle.logging.specs.declared.Counters.{Counters}

-- what an answer adds to each number: a corrected block one frame and its report's sum of bits, a refusal 5 one uncorrectable block, any other nothing
unfoldable pub frames_of : Report → ℕ
frames_of r = cond (eqb r.refusal 0) 1 0

unfoldable pub uncorrectable_of : Report → ℕ
uncorrectable_of r = cond (eqb r.refusal 5) 1 0

unfoldable pub corrected_bits_of : Report → ℕ
corrected_bits_of r = cond (eqb r.refusal 0) r.sum 0

-- a sum, or the largest 32-bit number if that is less
abbrev pub limited : ℕ → ℕ
limited n = min n 4294967295

-- the counters at the start and after clearing; and after one more answer
unfoldable pub cleared : Counters
cleared = record { frames = 0; uncorrectable = 0; bits = 0 }

unfoldable pub counted : Counters → Report → Counters
counted c r =
    record {
      frames = limited (c.frames + frames_of r);
      uncorrectable = limited (c.uncorrectable + uncorrectable_of r);
      bits = limited (c.bits + corrected_bits_of r);
    }

-- ---- every sequence of calls

-- a call clears the counters, or counts something: an answer, or what gave it
pub data Call (A : Type 0) : Type 0 where
  clear : Call A
  count : A → Call A

-- the counters after calls, and what was counted since the last clearing; the last call stands first
unfoldable pub after : List (Call Report) → Counters
after [] = cleared
after (clear ∷ earlier) = cleared
after (count r ∷ earlier) = counted (after earlier) r

unfoldable pub since : {A : Type 0} → List (Call A) → List A
since [] = []
since (clear ∷ earlier) = []
since (count a ∷ earlier) = a ∷ since earlier

-- what answers add up to, and the counters that show it
unfoldable pub sum_over : {A : Type 0} → (A → ℕ) → List A → ℕ
sum_over f [] = 0
sum_over f (a ∷ rest) = f a + sum_over f rest

unfoldable pub totals : List Report → Counters
totals answers =
    record {
      frames = limited (sum_over frames_of answers);
      uncorrectable = limited (sum_over uncorrectable_of answers);
      bits = limited (sum_over corrected_bits_of answers);
    }
