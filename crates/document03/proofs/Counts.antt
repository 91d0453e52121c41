-- Where document 03 speaks of the count of an inner word, a report has two since document 02, A.1: of its data places and of its parity places. Theirs is the sum.
-- Assumes nothing.
use mathlib.Core.Path.{◌≡◌, ◌∙◌}
use mathlib.Core.List.{List}
use Prim.Native.Nat.{ℕ, ◌+◌, ◌<◌}
use lib.ListN.{length, get_or}
use Rattle.fields.specs.Lists.{tabulate}
use Rattle.fields.specs.Places.{at}
use Rattle.fields.proofs.Lists.{tabulate_at, tabulate_length}
use Rattle.fields.proofs.Places.Counting.{sum_add, sum_same}
use Rattle.frames.specs.Correction.{total}

-- data plus parity, for each inner word
unfoldable pub together : List ℕ → List ℕ → List ℕ
together d p = tabulate 64 (λ k. at d k + at p k)

pub together_at : (d p : List ℕ) (k : ℕ) → k < 64 → get_or (together d p) k 0 ≡ at d k + at p k
unfolding together
together_at d p k l = tabulate_at 64 _ k 0 l

-- the sum of all
pub together_total : (d p : List ℕ) → length d ≡ 64 → length p ≡ 64 → total (together d p) ≡ total d + total p
unfolding total together
together_total d p ld lp =
    rw (ld, lp, tabulate_length 64 (λ k. at d k + at p k)) (sum_same 64 _ _ (together_at d p) ∙ sum_add 64 (at d) (at p))
