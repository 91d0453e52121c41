-- What the entries of logging answer is what document 03 asks of tally and worst list. Assumes nothing.
use mathlib.Core.Path.{◌≡◌, refl, sym, ap, ◌∙◌}
use mathlib.Core.Bool.{Bool, true, false, cond}
use mathlib.Core.List.{List, []}
use Prim.Native.Nat.{ℕ, ◌+◌}
use native.Mathlib.Omega.{arith}
use borrow.Author.Tests.{leb-false, leb-true}
use lib.Dec.{eqb, leb}
use lib.ListN.{replicate, length-replicate, get_or-replicate}
use Rattle.frames.specs.declared.Report.{Report}
use Rattle.logging.specs.declared.Counters.{Counters}
use Rattle.logging.specs.Counting.{frames_of, uncorrectable_of, corrected_bits_of, limited, cleared, counted}
use Rattle.logging.specs.WorstList.{worst_words}
use Rattle.document03.proofs.Fields.{pick}
use Rattle.document03.proofs.Words.Statements.{when}
use Rattle.document03.proofs.Logging.WorstListAgrees.{list_agrees}
use Rattle.document03.proofs.Logging.Says.{top32, lesser, ClearSays, CountSays, counts, WorstSays, WithoutTies}

-- ---- the tally

lesser_agrees : (n : ℕ) → limited n ≡ lesser top32 n
lesser_agrees n = go (leb top32 n) refl
  where
    go : (t : Bool) → leb top32 n ≡ t → limited n ≡ pick t top32 n
    go true e = omega (arith, leb-true top32 n e)
    go false e = omega (arith, leb-false top32 n e)

when_agrees : (t : Bool) (n : ℕ) → cond t n 0 ≡ when t n
when_agrees true n = refl
when_agrees false n = refl

pick_agrees : (t : Bool) (n : ℕ) → cond t n 0 ≡ pick t n 0
pick_agrees true n = refl
pick_agrees false n = refl

number_says : (a x y : ℕ) → x ≡ y → limited (a + x) ≡ lesser top32 (a + y)
number_says a x y e = ap (λ (n : ℕ). limited (a + n)) e ∙ lesser_agrees (a + y)

pub clear_says : (t : Counters) → t ≡ cleared → ClearSays t
unfolding cleared
clear_says t e = rw e (refl, refl, refl)

pub count_says : (t : Counters) (r : Report) (u : Counters) → u ≡ counted t r → CountSays t r u
unfolding counted frames_of uncorrectable_of corrected_bits_of
count_says t r u e =
    rw e (
      number_says t.frames _ _ (when_agrees (eqb r.refusal 0) 1),
      number_says t.uncorrectable _ _ (when_agrees (eqb r.refusal 5) 1),
      number_says t.bits _ _ (pick_agrees (eqb r.refusal 0) r.sum),
    )

-- ---- the worst list

-- where no two counts above 0 are equal
pub worst_says : (r : Report) (ws : List ℕ) → ws ≡ worst_words (r.«data», r.parity) → WithoutTies (counts r) → WorstSays r ws
unfolding worst_words
worst_says r ws e differ =
    e ∙ sym (list_agrees (r.«data», r.parity) differ 8 [] (replicate 65 false) (length-replicate 65 false, λ k l. get_or-replicate 65 k false false (omega arith)))
