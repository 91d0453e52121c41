-- What `Logging` of specs/Laws.antt lists is proved. Assumes nothing.
use mathlib.Core.Path.{◌≡◌, refl, ap, ap₂, ◌∙◌}
use mathlib.Core.Bool.{cond}
use mathlib.Core.List.{List, [], ◌∷◌, map}
use Prim.Native.Nat.{ℕ, ◌+◌}
use lib.Dec.{eqb}
use Rattle.frames.specs.declared.Report.{Report}
use Rattle.logging.specs.Counting.{frames_of, uncorrectable_of, corrected_bits_of, limited, Call, clear, count, since, sum_over, totals}
use Rattle.logging.specs.Laws.{CorrectorCall, number_promised, sum_promised, given, CounterLaws, Logging}
use Rattle.logging.proofs.Sequences.{since_clearing}
use Rattle.logging.proofs.Order.{in_words, irreflexive, transitive, comparable}
use Rattle.logging.proofs.Ranking.{worst_list}
use Rattle.logging.proofs.OneList.{worst_only}

-- ---- counters

-- the reports that are counted since the last clearing are those of the corrector's calls since then
since_given : (calls : List (Call CorrectorCall)) → since (map given calls) ≡ map (λ c. c.report) (since calls)
unfolding since
since_given [] = refl
since_given (clear ∷ earlier) = refl
since_given (count c ∷ earlier) = ap (λ (answers : List Report). c.report ∷ answers) (since_given earlier)

-- what the reports add, where each adds what is promised
sum_over_lem : (f : Report → ℕ) (g : CorrectorCall → ℕ) → ((c : CorrectorCall) → f c.report ≡ g c) → (cs : List CorrectorCall) →
    sum_over f (map (λ c. c.report) cs) ≡ sum_over g cs
unfolding sum_over
sum_over_lem f g same [] = refl
sum_over_lem f g same (c ∷ cs) = ap₂ ◌+◌ (same c) (sum_over_lem f g same cs)

-- number and sum are those of the promise
module _ (c : CorrectorCall) where
  number_promised_lem : c.report.refusal ≡ number_promised c
  number_promised_lem = ap (λ (a : ℕ × List ℕ × List ℕ × ℕ × List ℕ). a.0) c.promised

  sum_promised_lem : c.report.sum ≡ sum_promised c
  sum_promised_lem = ap (λ (a : ℕ × List ℕ × List ℕ × ℕ × List ℕ). a.3) c.promised

  frames_promised : frames_of c.report ≡ cond (eqb (number_promised c) 0) 1 0
  unfolding frames_of
  frames_promised = ap (λ (n : ℕ). cond (eqb n 0) 1 0) number_promised_lem

  uncorrectable_promised : uncorrectable_of c.report ≡ cond (eqb (number_promised c) 5) 1 0
  unfolding uncorrectable_of
  uncorrectable_promised = ap (λ (n : ℕ). cond (eqb n 5) 1 0) number_promised_lem

  bits_promised : corrected_bits_of c.report ≡ cond (eqb (number_promised c) 0) (sum_promised c) 0
  unfolding corrected_bits_of
  bits_promised = ap₂ (λ (n s : ℕ). cond (eqb n 0) s 0) number_promised_lem sum_promised_lem

of_corrections : (cs : List CorrectorCall) →
    totals (map (λ c. c.report) cs)
    ≡ record {
      frames = limited (sum_over (λ c. cond (eqb (number_promised c) 0) 1 0) cs);
      uncorrectable = limited (sum_over (λ c. cond (eqb (number_promised c) 5) 1 0) cs);
      bits = limited (sum_over (λ c. cond (eqb (number_promised c) 0) (sum_promised c) 0) cs);
    }
unfolding totals
of_corrections cs = rw (sum_over_lem _ _ frames_promised cs, sum_over_lem _ _ uncorrectable_promised cs, sum_over_lem _ _ bits_promised cs)

pub counters : CounterLaws
counters =
    record {
      since_clearing = since_clearing;
      corrections = λ calls. since_clearing (map given calls) ∙ ap totals (since_given calls) ∙ of_corrections (since calls);
    }

-- ---- worst list

pub logging : Logging
logging =
    record {
      counters = counters;
      lists =
          record {
            order = in_words;
            irreflexive = irreflexive;
            transitive = transitive;
            comparable = comparable;
            worst = worst_list;
            only = worst_only;
          };
    }
