-- Document 03's report of a corrected block is ours, data places and parity places together; so is its sum. Assumes nothing.
use mathlib.Core.Path.{◌≡◌, refl, sym, ap, ap₂, ◌∙◌}
use mathlib.Core.List.{List, [], ◌∷◌}
use Prim.Native.Nat.{ℕ, ◌+◌, ◌<◌}
use lib.ListN.{length}
use Rattle.fields.specs.Places.{at, sum_to}
use Rattle.fields.specs.Places as Places
use Rattle.fields.proofs.Lists.{tabulate_length}
use Rattle.words.specs.Bits.{bit_at}
use Rattle.words.specs.InnerWords as InnerWords
use Rattle.inner_words.proofs.Interleaving.InterleavedBits.{inner_word_length}
use Rattle.frames.specs.Correction as Correction
use Rattle.frames.specs.Correction.{counts_between, data_counts, parity_counts, all_counted}
use Rattle.frames.proofs.Correction.ReportCounts.{both_counts}
use Rattle.document03.proofs.Counts.{together, together_total}
use Rattle.document03.proofs.Words.Statements.{apart}
use Rattle.document03.proofs.Words.WordsAgree.{sum_first, apart_agrees}
use Rattle.document03.proofs.Frames.Statements.{inner_word}
use Rattle.document03.proofs.Frames.Menders.{report_from, report_of, total}
use Rattle.document03.proofs.Frames.ListsAgree.{all_agree}
use Rattle.document03.proofs.Frames.BlocksAgree.{inner_word_agrees}

-- the bits of two blocks, and their bytes
module _ (block frame b f : List ℕ) (same : (i : ℕ) → at block i ≡ bit_at b i) (same' : (i : ℕ) → at frame i ≡ bit_at f i) where
  pub count_agrees : (k : ℕ) → k < 64 →
      apart (inner_word k block) (inner_word k frame) ≡ Places.apart (InnerWords.inner_word (bit_at b) k) (InnerWords.inner_word (bit_at f) k)
  count_agrees k l =
      ap₂ apart (inner_word_agrees block (bit_at b) (λ i l. same i) k l) (inner_word_agrees frame (bit_at f) (λ i l. same' i) k l)
      ∙ apart_agrees (InnerWords.inner_word (bit_at b) k) (InnerWords.inner_word (bit_at f) k) (inner_word_length (bit_at b) k ∙ sym (inner_word_length (bit_at f) k))

  pub report_agrees : report_of block frame ≡ together (data_counts b f) (parity_counts b f)
  unfolding together
  report_agrees =
      all_agree (λ n k. report_from n k block frame) (λ k. apart (inner_word k block) (inner_word k frame)) _ 64 (λ k. refl) (λ n k. refl)
      (λ k l. count_agrees k l ∙ sym (both_counts b f k l))

total_agrees : (xs : List ℕ) → total xs ≡ Correction.total xs
unfolding Correction.total sum_to
total_agrees [] = refl
total_agrees (x ∷ xs) = ap (λ (n : ℕ). x + n) (total_agrees xs) ∙ sym (sum_first (length xs) (at (x ∷ xs)))

pub sum_agrees : (b f : List ℕ) → total (together (data_counts b f) (parity_counts b f)) ≡ all_counted b f
unfolding data_counts parity_counts counts_between all_counted
sum_agrees b f = total_agrees (together (data_counts b f) (parity_counts b f)) ∙ together_total (data_counts b f) (parity_counts b f) (tabulate_length 64 _) (tabulate_length 64 _)
