-- The counters after every sequence of calls are the sums over the answers since the last clearing, each up to its limit. Assumes nothing.
use mathlib.Core.Path.{◌≡◌, refl}
use mathlib.Core.List.{List, [], ◌∷◌}
use Prim.Native.Nat.{ℕ, ◌+◌}
use native.Mathlib.Omega.{arith}
use Rattle.frames.specs.declared.Report.{Report}
use Rattle.logging.specs.Counting.{frames_of, uncorrectable_of, corrected_bits_of, limited, cleared, counted, Call, clear, count, after, since, sum_over, totals}

-- a number that stops is the limit of the whole sum, wherever it stopped on the way
next : (f : Report → ℕ) (answers : List Report) (r : Report) → limited (limited (sum_over f answers) + f r) ≡ limited (sum_over f (r ∷ answers))
unfolding sum_over
next f answers r = omega arith

counted_totals : (answers : List Report) (r : Report) → counted (totals answers) r ≡ totals (r ∷ answers)
unfolding counted totals
counted_totals answers r = rw (next frames_of answers r, next uncorrectable_of answers r, next corrected_bits_of answers r)

cleared_totals : cleared ≡ totals []
unfolding cleared totals sum_over
cleared_totals = refl

pub since_clearing : (calls : List (Call Report)) → after calls ≡ totals (since calls)
unfolding after since
since_clearing [] = cleared_totals
since_clearing (clear ∷ earlier) = cleared_totals
since_clearing (count r ∷ earlier) = rw (since_clearing earlier) (counted_totals (since earlier) r)
