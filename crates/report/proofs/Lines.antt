-- The lines of a list of inner words, one more at a time.
use Rattle.std.proofs.Common.{◌≡◌, ℕ, ◌+◌, ◌<◌, List, [], ◌∷◌, ◌++◌, sym, ap, ◌∙◌, append_assoc, append-nil, length, take, get_or, add-one}
use Rattle.std.proofs.Math.Seq.{take-suc}
use Rattle.logging.specs.WorstList.{Counts}
use Rattle.report.specs.Printed.{inner_line, inner_lines}

pub lines_then : (counts : Counts) (ks : List ℕ) (k : ℕ) → inner_lines counts (ks ++ (k ∷ [])) ≡ inner_lines counts ks ++ inner_line counts k
unfolding inner_lines
lines_then counts [] k = append-nil (inner_line counts k)
lines_then counts (j ∷ ks) k = ap (λ l. inner_line counts j ++ l) (lines_then counts ks k) ∙ sym (append_assoc (inner_line counts j) (inner_lines counts ks) (inner_line counts k))

pub lines_next : (counts : Counts) (ks : List ℕ) (i k : ℕ) → i < length ks → k ≡ get_or ks i 0 → inner_lines counts (take i ks) ++ inner_line counts k ≡ inner_lines counts (take (i + 1) ks)
lines_next counts ks i k p e =
    rw e (sym (lines_then counts (take i ks) (get_or ks i 0)) ∙ ap (inner_lines counts) (sym (take-suc ks i 0 p)) ∙ ap (λ n. inner_lines counts (take n ks)) (sym (add-one i)))
