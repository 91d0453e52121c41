-- Document 03's statements on correction, and its record of all that is proved. Assumes nothing.
use mathlib.Core.Path.{◌≡◌, sym, ap, ◌∙◌, subst}
use mathlib.Core.Bool.{true, false}
use mathlib.Core.List.{List}
use mathlib.Core.Logic.{◌⊎◌, inl, inr}
use mathlib.Core.Option.{some}
use Prim.Native.Nat.{ℕ, ◌≤◌, ◌<◌}
use lib.ListN.{length}
use Rattle.fields.specs.Places.{at}
use Rattle.fields.specs.Places as Places
use Rattle.words.specs.Bits.{bit_at, bits_of, bytes_of}
use Rattle.words.specs.InnerCode as Inner
use Rattle.words.specs.InnerWords as InnerWords
use Rattle.words.specs.InnerWords.{inner_pass}
use Rattle.words.proofs.Bits.Bytes.{bits_at}
use Rattle.inner_words.proofs.Interleaving.InterleavedBits.{inner_word_length}
use Rattle.frames.specs.Frames as Frames
use Rattle.frames.specs.Correction.{restored_frame}
use Rattle.frames.specs.Demands.{Restored, Premise}
use Rattle.words.proofs.Codes.Options.{some_same, some_not_none}
use Rattle.frames.proofs.Correction.ReportCounts.{wrong_in_lem}
use Rattle.frames.proofs.Demands as Ours
use Rattle.document03.proofs.Fields.{is_in, fields}
use Rattle.document03.proofs.Words.Statements.{is_inner, apart, all_bits}
use Rattle.document03.proofs.Words.InnerAgrees.{inner_length, inner_agrees}
use Rattle.document03.proofs.Words.StatementsHold.{codes}
use Rattle.document03.proofs.Words.SaysHold.{far_is}
use Rattle.document03.proofs.Frames.Statements.{inner_word, frame_of_words, frame_of, all_bytes}
use Rattle.document03.proofs.Frames.Menders.{Mends, Beyond, TwoPasses, Lost, wrong_symbols, symbols_in, Demand3}
use Rattle.document03.proofs.Frames.Says.{Demands}
use Rattle.document03.proofs.Frames.FramesAgree.{sixteen_words}
use Rattle.document03.proofs.Frames.BlocksAgree.{inner_word_agrees, block_bits}
use Rattle.document03.proofs.Frames.PassesAgree.{Outcome, one_frame, not_both, restored_mends, uncorrectable_beyond}
use Rattle.document03.proofs.Frames.ReportsAgree.{count_agrees}
use Rattle.document03.proofs.Frames.LostSymbolsAgree.{lost_symbols_agree}
use Rattle.document03.proofs.Frames.StatementsHold.{payload_is, words_frame_agrees, frame_agrees, second_half, reads_back}

-- a block of bits, and its bytes
module _ (block : List ℕ) (long : length block ≡ 130560) (bits : all_bits block ≡ true) where
  abbrev bytes : List ℕ
  bytes = bytes_of 16320 (at block)

  same : (i : ℕ) → at block i ≡ bit_at bytes i
  same = block_bits block long bits

  mends : (ws : List (List ℕ)) → Restored (inner_pass (bit_at bytes)) ws → Mends block (frame_of_words ws)
  mends = restored_mends block (bit_at bytes) long same

  one_or_other : ((frame : List ℕ) × Mends block frame) ⊎ Beyond block
  one_or_other = go ((Ours.two_passes).one_or_other bytes)
    where
      go : Outcome (inner_pass (bit_at bytes)) → ((frame : List ℕ) × Mends block frame) ⊎ Beyond block
      go (inl (ws, r)) = inl (frame_of_words ws, mends ws r)
      go (inr (w, l, far)) = inr (uncorrectable_beyond block (bit_at bytes) long same w l far)

  -- demand 3, first half
  module _ (payload lost : List ℕ) (payload_long_lem : length payload ≡ 15296) (payload-bytes : all_bytes payload ≡ true)
      (beyond : (k : ℕ) → k < 64 → is_in k lost ≡ true → Lost (inner_word k block))
      (within : (k : ℕ) → k < 64 → is_in k lost ≡ false → apart (inner_word k block) (inner_word k (frame_of payload)) ≤ 8)
      (few : (w : ℕ) → w < 16 → wrong_symbols (symbols_in w) 0 w lost block (frame_of payload) ≤ 8) where
    abbrev frame : List ℕ
    frame = Frames.frame_of payload

    same_sent : (i : ℕ) → at (frame_of payload) i ≡ bit_at frame i
    same_sent i = ap (λ (xs : List ℕ). at xs i) (frame_agrees payload payload_long_lem) ∙ bits_at frame i

    lost_beyond : (k : ℕ) → k < 64 → is_in k lost ≡ true → (c : List ℕ) → Inner.is_inner c ≡ true → 8 < Places.apart (InnerWords.inner_word (bit_at bytes) k) c
    lost_beyond k l t c h =
        let code : is_inner c ≡ true = inner_agrees c ∙ h in
        let e : inner_word k block ≡ InnerWords.inner_word (bit_at bytes) k = inner_word_agrees block (bit_at bytes) (λ i l. same i) k l in
        subst (λ (w : List ℕ). 8 < Places.apart w c) e
        (far_is (inner_word k block) c (beyond k l t c code) (inner_length c code ∙ sym (ap length e ∙ inner_word_length (bit_at bytes) k)))

    premise : Premise (λ k. is_in k lost) payload bytes
    premise =
        record {
          lost_words_lem = lost_beyond;
          within = λ k l t. subst (λ (n : ℕ). n ≤ 8)
              (count_agrees block (frame_of payload) bytes frame same same_sent k l ∙ wrong_in_lem bytes frame k) (within k l t);
          few = λ w l. subst (λ (n : ℕ). n ≤ 8) (lost_symbols_agree lost block (frame_of payload) bytes frame same same_sent w l) (few w l);
        }

    sent : restored_frame bytes ≡ some frame
    sent = (Ours.demand_3).sent_restored (λ k. is_in k lost) payload bytes (payload_is payload payload_long_lem payload-bytes) premise

    first_half : Mends block (frame_of payload)
    first_half = go ((Ours.two_passes).one_or_other bytes)
      where
        go : Outcome (inner_pass (bit_at bytes)) → Mends block (frame_of payload)
        go (inl (ws, r)) =
            let e : Frames.frame_of_words ws ≡ frame = some_same (Frames.frame_of_words ws) frame (sym ((Ours.two_passes).restored bytes ws r) ∙ sent) in
            subst (λ (g : List ℕ). Mends block g)
            (words_frame_agrees ws (sixteen_words ws r.sixteen r.long) ∙ ap bits_of e ∙ sym (frame_agrees payload payload_long_lem)) (mends ws r)
        go (inr (w, l, far)) = absurd (some_not_none frame (sym sent ∙ (Ours.two_passes).none_restored bytes w l far))

pub two_passes : TwoPasses
two_passes =
    record {
      one_or_other = one_or_other;
      one_frame = λ block f g bits. one_frame block f g;
      not_both = λ block f bits. not_both block f;
    }

pub demand_3 : Demand3
demand_3 =
    record {
      first_half = λ payload block lost hp bp hb bits. first_half block hb bits payload lost hp bp;
      second_half = second_half;
    }

pub demands : Demands
demands = record { fields = fields; codes = codes; passes = two_passes; reads_back = reads_back; third = demand_3 }
