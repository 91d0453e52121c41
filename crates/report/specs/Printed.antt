-- What is printed of a report, as bytes.
use Rattle.std.specs.Prelude.{ℕ, List, [], ◌∷◌, ◌++◌, cond, eqb, ltb, get_or, replicate, codes, decimal}
use Rattle.logging.specs.WorstList.{Counts, worst_words}
use Rattle.frames.specs.Answers.{CorrectorAnswer, frame_corrected}

-- text, a number, and the line's end
unfoldable pub line : List ℕ → ℕ → List ℕ
line before n = before ++ (decimal n ++ codes "\n")

-- the line of inner word k: its number, its wrong data places and its wrong parity places; none for 64, an empty place of the list
unfoldable pub inner_line : Counts → ℕ → List ℕ
inner_line counts k =
    cond (ltb k 64) ((codes "inner " ++ (decimal k ++ (codes " " ++ decimal (get_or counts.0 k 0)))) ++ line (codes " ") (get_or counts.1 k 0)) []

-- the lines of a list of inner words
unfoldable pub inner_lines : Counts → List ℕ → List ℕ
inner_lines counts [] = []
inner_lines counts (k ∷ ks) = inner_line counts k ++ inner_lines counts ks

-- the lines of a report's worst list
unfoldable pub listed : Counts → List ℕ
listed counts = inner_lines counts (worst_words counts)

-- a report: of a mended block the number of wrong bits, then the worst list; else the refusal's number
unfoldable pub printed : ℕ → Counts → ℕ → List ℕ
printed refusal counts sum = cond (eqb refusal 0) (line (codes "mended ") sum ++ listed counts) (line (codes "refused ") refusal)

-- what is printed of the corrector's answer
unfoldable pub answer_printed : CorrectorAnswer → List ℕ
answer_printed a = printed a.0 (a.1, a.2) a.3

-- what is printed where the input is all that there is to read
unfoldable pub report_on : List ℕ → List ℕ
report_on input = answer_printed (frame_corrected input (replicate 16320 0))
