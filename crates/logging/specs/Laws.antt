-- What is proved of counters and worst list: `logging` of proofs/Proved.antt is the proof.
use Rattle.std.specs.Prelude.{◌≡◌, ◌⊎◌, true, cond, List, map, ℕ, ◌<◌, eqb, length, get_or}
use Rattle.frames.specs.Answers.{frame_corrected}
use Rattle.frames.specs.declared.Report.{Report}
use Rattle.logging.specs.Counting.{limited, Call, clear, count, after, since, sum_over, totals}
use Rattle.logging.specs.WorstList.{Counts, count_of, data_of, is_before, worst_words}

-- ---- counters

-- a call of the corrector: block and output buffer, then report and buffer as its contract promises them
pub record CorrectorCall : Type 0 where
  pub block : List ℕ
  pub buffer : List ℕ
  pub report : Report
  pub out : List ℕ
  pub promised : (report.refusal, report.«data», report.parity, report.sum, out) ≡ frame_corrected block buffer

-- the number and the sum that are promised
abbrev pub number_promised : CorrectorCall → ℕ
number_promised c = (frame_corrected c.block c.buffer).0

abbrev pub sum_promised : CorrectorCall → ℕ
sum_promised c = (frame_corrected c.block c.buffer).3

-- what the counters are given: a clearing, or the report of the corrector's call
abbrev pub given : Call CorrectorCall → Call Report
given clear = clear
given (count c) = count c.report

pub record CounterLaws : Type 0 where
  -- after any calls, each number is the sum over the answers since the last clearing, or 4,294,967,295 if that is less
  pub since_clearing : (calls : List (Call Report)) → after calls ≡ totals (since calls)
  -- where the answers are the corrector's, these are its corrected blocks since the last clearing, its refusals 5, and the bits of its corrected blocks
  pub corrections : (calls : List (Call CorrectorCall)) →
      after (map given calls)
      ≡ record {
        frames = limited (sum_over (λ c. cond (eqb (number_promised c) 0) 1 0) (since calls));
        uncorrectable = limited (sum_over (λ c. cond (eqb (number_promised c) 5) 1 0) (since calls));
        bits = limited (sum_over (λ c. cond (eqb (number_promised c) 0) (sum_promised c) 0) (since calls));
      }

-- ---- worst list

-- inner word j stands before inner word k
abbrev pub Before : Counts → ℕ → ℕ → Type 0
Before counts j k = is_before counts j k ≡ true

-- document 02, A.2, puts inner word j before inner word k: its count is larger; or the counts are equal, and it has more at data places; or both are equal, and
-- its number is higher
abbrev pub PutFirst : Counts → ℕ → ℕ → Type 0
PutFirst counts j k =
    (count_of counts k < count_of counts j)
    ⊎ ((count_of counts j ≡ count_of counts k)
    × ((data_of counts k < data_of counts j) ⊎ ((data_of counts j ≡ data_of counts k) × (k < j))))

-- place i of a list
abbrev pub place_of : List ℕ → ℕ → ℕ
place_of list i = get_or list i 64

-- what document 01 asks of the worst list of counts, where a count is that of data places and parity places together (document 02, A.1), and the order A.2's
pub record Worst (counts : Counts) (list : List ℕ) : Type 0 where
  -- eight places, each empty or with an inner word whose count is above 0
  pub eight : length list ≡ 8
  pub named : (i : ℕ) → i < 8 → (place_of list i ≡ 64) ⊎ ((place_of list i < 64) × (0 < count_of counts (place_of list i)))
  -- sorted: a place before that of an inner word has one that stands before it, so empty places are last
  pub sorted : (i j : ℕ) → i < j → j < 8 → place_of list j < 64 → (place_of list i < 64) × Before counts (place_of list i) (place_of list j)
  -- no repeats: two places that hold the same are empty
  pub once : (i j : ℕ) → i < j → j < 8 → place_of list i ≡ place_of list j → place_of list i ≡ 64
  -- nothing worse is left out: if an inner word with a count above 0 is not listed, every place has one that stands before it
  pub complete : (k : ℕ) → k < 64 → 0 < count_of counts k → ((i : ℕ) → i < 8 → place_of list i ≡ k → ⊥) →
      (i : ℕ) → i < 8 → (place_of list i < 64) × Before counts (place_of list i) k

pub record WorstLaws : Type 0 where
  -- the order is document 02's: what stands before is what it puts first, and nothing else
  pub order : (counts : Counts) (j k : ℕ) → (Before counts j k → PutFirst counts j k) × (PutFirst counts j k → Before counts j k)
  -- it is a strict total order: nothing stands before itself, what stands before one stands before all that follow it, and of any two one stands before the other
  pub irreflexive : (counts : Counts) (k : ℕ) → Before counts k k → ⊥
  pub transitive : (counts : Counts) (i j k : ℕ) → Before counts i j → Before counts j k → Before counts i k
  pub comparable : (counts : Counts) (j k : ℕ) → (j ≡ k → ⊥) → Before counts j k ⊎ Before counts k j
  -- the list is what the two documents ask for
  pub worst : (counts : Counts) → Worst counts (worst_words counts)
  -- and there is no other such list
  pub only : (counts : Counts) (list : List ℕ) → Worst counts list → list ≡ worst_words counts

pub record Logging : Type 0 where
  pub counters : CounterLaws
  pub lists : WorstLaws
