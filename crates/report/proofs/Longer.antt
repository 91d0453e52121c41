-- Input that is longer than a block is refused by its length, and so it is enough to read one byte more.
use Rattle.std.proofs.Common.{◌≡◌, ℕ, false, List, None, Some, IfSome, eqb, length, take, replicate, sym, ap, ◌∙◌, subst, arith, length-take-le, take_all}
use Rattle.std.proofs.lemmas.Bool.{ne_eqb, cases_lt}
use Rattle.std.proofs.Math.Logic.{⊎_elim}
use Rattle.std.specs.declared.option.Option.{Option}
use Rattle.std.specs.Io.KnownBytes.{Appends}
use Rattle.frames.specs.Answers.{refused, concluded, frame_corrected}
use Rattle.report.specs.Printed.{answer_printed, report_on}

wrong_length : (block buffer : List ℕ) → eqb (length block) 16320 ≡ false → frame_corrected block buffer ≡ refused 2 buffer
unfolding frame_corrected concluded
wrong_length block buffer e = rw e

same_answer : (input buffer : List ℕ) → frame_corrected (take 16321 input) buffer ≡ frame_corrected input buffer
same_answer input buffer = ⊎_elim
    (λ p. wrong_length _ buffer (ne_eqb _ 16320 (λ q. omega (arith, q, length-take-le 16321 input (omega (arith, p)))))
    ∙ sym (wrong_length input buffer (ne_eqb _ 16320 (λ q. omega (arith, q, p)))))
    (λ p. ap (λ x. frame_corrected x buffer) (take_all 16321 input p))
    (cases_lt 16321 (length input))

pub answers : (known a b : Option (List ℕ)) (block text : List ℕ) → IfSome known (λ input. block ≡ take 16321 input)
    → text ≡ answer_printed (frame_corrected block (replicate 16320 0)) → Appends a b text → IfSome known (λ input. Appends a b (report_on input))
unfolding report_on
answers None a b block text e f w = tt
answers (Some input) a b block text e f w =
    subst (Appends a b) (f ∙ ap (λ x. answer_printed (frame_corrected x (replicate 16320 0))) e ∙ ap answer_printed (same_answer input (replicate 16320 0))) w
