-- Demand 3, the first half: lost inner words cost an outer word at most eight symbols, so the sent frame comes back, and the report counts the wrong bits.
-- Assumes nothing.
use mathlib.Core.Path.{◌≡◌, refl, ◌∙◌}
use mathlib.Core.Bool.{Bool, true, false, cond}
use mathlib.Core.List.{List, []}
use mathlib.Core.Option.{some}
use Prim.Native.Nat.{ℕ, ◌+◌, ◌-◌, ◌*◌, ◌%◌, ◌≤◌, ◌<◌, min}
use native.Mathlib.Omega.{arith}
use lib.Dec.{ltb}
use lib.ListN.{length}
use Rattle.fields.specs.Places.{sum_to, differs, apart}
use Rattle.fields.proofs.Lists.{tabulate_at, tabulate_length}
use Rattle.fields.proofs.Places.Counting.{differs_self, sum_mono}
use Rattle.fields.proofs.Places.Differences.{apart_tables}
use Rattle.words.specs.Bits.{bit_at}
use Rattle.words.specs.InnerWords.{inner_word}
use Rattle.words.proofs.Bits.Numbers.{number_differs}
use Rattle.inner_words.proofs.Interleaving.InterleavedBits.{word_to_bit}
use Rattle.frames.specs.Frames.{is_payload, data_in, outer_word, outer_words, symbol_at, frame_of, wrong_bits}
use Rattle.frames.specs.Correction.{received_bit, received_symbol, received_word, restored_frame}
use Rattle.frames.specs.Answers.{reported, frame_corrected}
use Rattle.frames.specs.Demands.{Restored, wrong_at, wrong_data, wrong_parity, lost_symbols, Premise}
use Rattle.frames.proofs.Frames.FrameBits.{payload_is, frame_inner, data_in_le, outer_word_length}
use Rattle.frames.proofs.OuterSymbols.Received.{received_own}
use Rattle.frames.proofs.OuterSymbols.Permitted.{payload_permitted}
use Rattle.frames.proofs.Correction.ReportCounts.{wrong_in_lem, data_counts_lem, parity_counts_lem, all_counted_lem}
use Rattle.frames.proofs.Correction.RestoredWords.{inner_near, inner_lost, passed, restored, answer_is}

-- ---- outer words

-- h is at least 1 at each bit where a and b differ
module _ (a b h : ℕ → ℕ) (covers : (i : ℕ) → i < 130560 → differs (a i) (b i) ≤ h i) where
  received_differs : (r : ℕ) → r < 130560 → differs (received_bit a r) (received_bit b r) ≤ received_bit h r
  unfolding received_bit
  received_differs r l = go (ltb r 124768) (ltb r 124770)
    where
      go : (s t : Bool) → differs (cond s (a r) (cond t 0 (a (r - 2)))) (cond s (b r) (cond t 0 (b (r - 2)))) ≤ cond s (h r) (cond t 0 (h (r - 2)))
      go true t = covers r l
      go false true = omega (arith, differs_self 0)
      go false false = covers (r - 2) (omega arith)

  -- an outer word differs at most in the symbols that have such a bit
  symbols_differ : (w : ℕ) → w < 16 →
      apart (received_word a w) (received_word b w) ≤ sum_to (data_in w + 16) (λ s. min 1 (sum_to 10 (λ j. received_bit h (7810 * w + 10 * s + j))))
  unfolding received_word received_symbol symbol_at
  symbols_differ w k =
      rw (apart_tables (data_in w + 16) (λ s. received_symbol a (781 * w + s)) (λ s. received_symbol b (781 * w + s)))
      (sum_mono (data_in w + 16) _ _ (λ s l. number_differs 10 _ _ (λ j. received_bit h (7810 * w + 10 * s + j)) (λ j m.
      let e : 10 * (781 * w + s) + j ≡ 7810 * w + 10 * s + j = omega arith in
      rw e (received_differs (7810 * w + 10 * s + j) (omega (arith, data_in_le w))))))

-- ---- the sent frame comes back

module _ (lost : ℕ → Bool) (payload block : List ℕ) (valid : is_payload payload ≡ true) (premise : Premise lost payload block) where
  abbrev sent : ℕ → ℕ
  sent = bit_at (frame_of payload)

  -- after the inner pass a bit is wrong only in a lost inner word
  passed_differs : (i : ℕ) → i < 130560 → differs (passed block i) (sent i) ≤ cond (lost (i % 64)) (wrong_at block (frame_of payload) i) 0
  unfolding wrong_at frame_of
  passed_differs i l = go (lost (i % 64)) refl
    where
      go : (t : Bool) → lost (i % 64) ≡ t → differs (passed block i) (sent i) ≤ cond t (differs (bit_at block i) (sent i)) 0
      go true e =
          let same = inner_lost (bit_at block) (i % 64) (omega arith) (premise.lost_words_lem (i % 64) (omega arith) e) in
          rw (word_to_bit (passed block) (bit_at block) i l same) (omega arith)
      go false e =
          let near : apart (inner_word (bit_at block) (i % 64)) (inner_word sent (i % 64)) ≤ 8 =
          omega (arith, wrong_in_lem block (frame_of payload) (i % 64), premise.within (i % 64) (omega arith) e) in
          let same = inner_near (bit_at block) (i % 64) _ (omega arith) (frame_inner (outer_words payload) (i % 64) (omega arith)) near in
          rw (word_to_bit (passed block) sent i l same) (omega (arith, differs_self (sent i)))

  -- so each outer word lies within eight symbols of the sent one
  words_restored : Restored (passed block) (outer_words payload)
  unfolding outer_words lost_symbols
  words_restored =
      record {
        sixteen = tabulate_length 16 (outer_word payload);
        long = λ w k. rw (tabulate_at 16 (outer_word payload) w [] k) (outer_word_length payload w);
        permitted = λ w k. rw (tabulate_at 16 (outer_word payload) w [] k) (payload_permitted payload (payload_is payload valid).0 w k);
        near = λ w k. rw (tabulate_at 16 (outer_word payload) w [] k, ← received_own payload (payload_is payload valid).0 w k)
            (omega (arith, premise.few w k, symbols_differ (passed block) sent _ passed_differs w k));
      }

  pub sent_restored : restored_frame block ≡ some (frame_of payload)
  unfolding frame_of
  sent_restored = restored block (outer_words payload) words_restored

  pub first_half : (buffer : List ℕ) → length block ≡ 16320 → length buffer ≡ 16320 →
      let frame = frame_of payload in
      frame_corrected block buffer ≡ (0, wrong_data block frame, wrong_parity block frame, wrong_bits block frame, frame)
  unfolding reported
  first_half buffer fits room =
      answer_is block buffer fits room (some (frame_of payload)) sent_restored
      ∙ rw (all_counted_lem block (frame_of payload), data_counts_lem block (frame_of payload), parity_counts_lem block (frame_of payload))
