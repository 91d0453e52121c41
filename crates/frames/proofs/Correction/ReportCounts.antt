-- The report: in how many places of each inner word two blocks differ, counted eight places at a time, and the sum. Assumes nothing.
use mathlib.Core.Path.{◌≡◌, refl, sym, ap, ap₂, ◌∙◌}
use mathlib.Core.List.{List}
use Prim.Native.Nat.{ℕ, zero, suc, ◌+◌, ◌-◌, ◌*◌, ◌/◌, ◌%◌, ◌≤◌, ◌<◌, zero-le}
use native.Mathlib.Nat.{le_refl, zero-add}
use native.Mathlib.Omega.{arith}
use lib.ListN.{length, get_or, set, take}
use lib.Seq.{take-length}
use Rattle.std.specs.List.{sum}
use Rattle.std.proofs.lemmas.List.Sums.{sum_by_more}
use Rattle.fields.specs.Elements.{xor}
use Rattle.fields.specs.Places.{at, sum_to, differs, apart_between, apart}
use Rattle.fields.specs.Lists.{tabulate}
use Rattle.fields.proofs.Lists.{tabulate_at, tabulate_length, tabulate_same}
use Rattle.fields.proofs.Places.Counting.{sum_add, sum_same}
use Rattle.fields.proofs.Places.Differences.{apart_tables, between_plus, between_tables}
use Rattle.decoding.proofs.Decoding.Changes.{differs_sum}
use Rattle.lanes.specs.declared.counters.Planes.{Planes}
use Rattle.lanes.specs.Steps.Sliced.{lane_bit, turned}
use Rattle.lanes.specs.Steps.Counters.{ones_in, lowest, EightMore, Carried, carried_counts}
use Rattle.lanes.proofs.Lanewise.{bit_lt, bit_sum}
use Rattle.lanes.proofs.CarrySave.{ones_same, ones_first, carried_next}
use Rattle.words.specs.Bits.{bit_at}
use Rattle.words.specs.InnerWords.{inner_word}
use Rattle.inner_words.specs.Steps.InnerResidues.{loaded_at, difference_from}
use Rattle.inner_words.proofs.Interleaving.InterleavedBits.{inner_word_length}
use Rattle.inner_words.proofs.Interleaving.EightBytes.{loaded_bit}
use Rattle.inner_words.proofs.Passes.Counts.{bit_is}
use Rattle.frames.specs.Frames.{wrong_bits}
use Rattle.frames.specs.Correction.{counts_between, data_counts, parity_counts, total, all_counted}
use Rattle.frames.specs.Demands.{wrong_at, wrong_in, wrong_data, wrong_parity}
use Rattle.frames.proofs.Frames.FarApart.{wrong_parts}

-- ---- all places of every inner word

module _ (block frame : List ℕ) where
  pub wrong_in_lem : (k : ℕ) → apart (inner_word (bit_at block) k) (inner_word (bit_at frame) k) ≡ wrong_in block frame k
  unfolding inner_word wrong_in wrong_at
  wrong_in_lem k = apart_tables 2040 (λ p. bit_at block (64 * p + k)) (λ p. bit_at frame (64 * p + k))

  -- the report counts the wrong bits of each inner word, among its data places and among its parity places
  pub data_counts_lem : data_counts block frame ≡ wrong_data block frame
  unfolding data_counts counts_between inner_word wrong_data wrong_at
  data_counts_lem = tabulate_same 64 _ _ (λ k l.
      between_tables 0 1952 2040 (λ p. bit_at block (64 * p + k)) (λ p. bit_at frame (64 * p + k)) (omega arith)
      ∙ sum_same 1952 _ _ (λ p m. ap (λ (q : ℕ). differs (bit_at block (64 * q + k)) (bit_at frame (64 * q + k))) (zero-add p)))

  pub parity_counts_lem : parity_counts block frame ≡ wrong_parity block frame
  unfolding parity_counts counts_between inner_word wrong_parity wrong_at
  parity_counts_lem = tabulate_same 64 _ _ (λ k l. between_tables 1952 2040 2040 (λ p. bit_at block (64 * p + k)) (λ p. bit_at frame (64 * p + k)) (le_refl 2040))

  -- the two together are the distance of the inner words
  pub both_counts : (k : ℕ) → k < 64 → at (data_counts block frame) k + at (parity_counts block frame) k ≡ apart (inner_word (bit_at block) k) (inner_word (bit_at frame) k)
  unfolding data_counts parity_counts counts_between apart
  both_counts k l =
      let b = inner_word (bit_at block) k in
      let f = inner_word (bit_at frame) k in
      rw (tabulate_at 64 (λ k. apart_between 0 1952 (inner_word (bit_at block) k) (inner_word (bit_at frame) k)) k 0 l, tabulate_at 64 (λ k. apart_between 1952 2040 (inner_word (bit_at block) k) (inner_word (bit_at frame) k)) k 0 l, inner_word_length (bit_at block) k)
      (sym (between_plus 0 1952 2040 b f zero-le (omega arith)))

  -- and the sum counts the wrong bits of the block
  pub all_counted_lem : all_counted block frame ≡ wrong_bits block frame
  unfolding all_counted total data_counts parity_counts counts_between
  all_counted_lem =
      rw (tabulate_length 64 (λ k. apart_between 0 1952 (inner_word (bit_at block) k) (inner_word (bit_at frame) k)), tabulate_length 64 (λ k. apart_between 1952 2040 (inner_word (bit_at block) k) (inner_word (bit_at frame) k)))
      (sym (sum_add 64 (at (data_counts block frame)) (at (parity_counts block frame))) ∙ sum_same 64 _ _ both_counts ∙ sym (wrong_parts block frame))

-- ---- places from one on and before another

module _ (block frame : List ℕ) (from : ℕ) where
  abbrev xs : ℕ → ℕ
  xs = difference_from block frame from

  place_differs : (i k : ℕ) → k < 64 → lane_bit (turned k) (xs i) ≡ differs (bit_at block (64 * (from + i) + k)) (bit_at frame (64 * (from + i) + k))
  unfolding difference_from
  place_differs i k l =
      let q = from + i in
      let j = turned k in
      bit_is _ (bit_lt j (xor (loaded_at block q) (loaded_at frame q)))
      ∙ ap (λ (x : ℕ). differs x 0) (bit_sum j (loaded_at block q) (loaded_at frame q)
      ∙ ap₂ xor (loaded_bit block q k l) (loaded_bit frame q k l))
      ∙ differs_sum (bit_at block (64 * q + k)) (bit_at frame (64 * q + k))

  module _ (s : Planes) (carries : List ℕ) (i : ℕ) (so_far : Carried xs i s carries) where
    -- eight places more
    pub counted_next : (n to : ℕ) (r : Planes) (eight : List ℕ) → i < n → n ≡ (to - from) / 8 → to ≤ 2040 → length carries ≡ 256 →
        eight ≡ tabulate 8 (difference_from block frame (from + 8 * i)) → EightMore (at eight) 0 s r → Carried xs (i + 1) r (set carries i r.carry)
    unfolding difference_from
    counted_next n to r eight h en short long e more =
        let few : n ≤ 256 = omega arith in
        let here : (q : ℕ) → q < 8 → at eight (0 + q) ≡ xs (8 * i + q) = λ q l.
        let p : from + 8 * i + q ≡ from + (8 * i + q) = omega arith in
        ap (at eight) (zero-add q) ∙ ap (λ (c : List ℕ). at c q) e ∙ tabulate_at 8 (difference_from block frame (from + 8 * i)) q 0 l ∙ rw p in
        carried_next so_far h few long (record { each = λ k. rw (ones_same k _ _ 8 here) at (more.each k) })

    pub counted_end : (n to : ℕ) (counts : List ℕ) → i ≤ n → n ≤ i → to ≤ 2040 → n ≡ (to - from) / 8 → (to - from) % 8 ≡ 0 →
        counts ≡ carried_counts s carries ((n + 8 - 1) / 8) → counts ≡ counts_between from to block frame
    unfolding carried_counts ones_in counts_between inner_word
    counted_end n to counts h l short en whole e =
        let ei : i ≡ n = omega arith in
        let all : 8 * n ≡ to - from = omega arith in
        e ∙ tabulate_same 64 _ _ (λ k b.
        let j = turned k in
        let first = ones_first j (at carries) n (8 * ((n + 8 - 1) / 8)) (rw ei at so_far.none) (omega arith) in
        let counted : lowest j s + 8 * ones_in j (at carries) (8 * ((n + 8 - 1) / 8)) ≡ sum_to (8 * n) (λ p. lane_bit j (xs p)) =
        omega (arith, first, rw ei at (so_far.each j)) in
        counted ∙ rw all (sum_same (to - from) _ _ (λ p m. place_differs p k b))
        ∙ sym (between_tables from to 2040 (λ p. bit_at block (64 * p + k)) (λ p. bit_at frame (64 * p + k)) short))

-- ---- the sum

module _ (counts : List ℕ) where
  summed : (k : ℕ) → k ≤ length counts → sum (take k counts) ≡ sum_to k (at counts)
  unfolding sum_to
  summed zero h = refl
  summed (suc k) h =
      let e : suc k ≡ k + 1 = omega arith in
      ap (λ (n : ℕ). sum (take n counts)) e ∙ sum_by_more (λ x. x) counts k 0 (omega arith) ∙ ap (λ (n : ℕ). n + at counts k) (summed k (omega arith))

  pub total_sum : sum counts ≡ total counts
  unfolding total
  total_sum = ap sum (sym (take-length counts)) ∙ summed (length counts) (le_refl (length counts))

  pub sum_most : ((i : ℕ) → get_or counts i 0 < 65536) → length counts ≤ 64 → sum counts ≤ 4194240
  sum_most small few = omega (arith, ap sum (take-length counts), bounded (length counts) (le_refl (length counts)))
    where
      bounded : (k : ℕ) → k ≤ length counts → sum (take k counts) ≤ 65535 * k
      bounded zero h = zero-le
      bounded (suc k) h =
          let e : suc k ≡ k + 1 = omega arith in
          rw e (omega (arith, sum_by_more (λ x. x) counts k 0 (omega arith), bounded k (omega arith), small k))
