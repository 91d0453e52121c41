-- What the corrector answers, one law for each way through it. Assumes nothing.
use mathlib.Core.Path.{◌≡◌, refl, sym, ap, ◌∙◌}
use mathlib.Core.Bool.{Bool, true, false}
use mathlib.Core.List.{List, []}
use mathlib.Core.Option.{Option, none, some, map}
use Prim.Native.Nat.{ℕ, ◌+◌, ◌-◌, ◌*◌, ◌<◌}
use native.Mathlib.Omega.{arith}
use borrow.Author.Tests.{eq-eqb, ne_eqb}
use lib.Dec.{eqb}
use lib.ListN.{length, get_or, replicate}
use mir.Syntax.{w8}
use mir.Val.{Fits}
use Rattle.fields.specs.Lists.{tabulate}
use Rattle.fields.specs.Places.{at}
use Rattle.fields.proofs.Lists.{tabulate_at, tabulate_same}
use Rattle.words.specs.Bits.{bit_at, bytes_of}
use Rattle.words.specs.Nearest.{nearest, every_of}
use Rattle.words.specs.InnerWords.{with_parity, inner_pass}
use Rattle.words.proofs.Bits.Numbers.{number_of_same}
use Rattle.inner_words.specs.Steps.Passes.{inner_codes, InnerPassed}
use Rattle.inner_words.proofs.Passes.WrongWords.{none_wrong}
use Rattle.frames.specs.Frames.{symbol_at, data_in, frame_of_words}
use Rattle.frames.specs.Correction.{received_bit, received_symbol, received_word, is_permitted, outer_restored, outer_pass, outer_frame, restored_frame, counts_between, data_counts, parity_counts, total, all_counted}
use Rattle.frames.specs.Answers.{CorrectorAnswer, no_counts, refused, reported, concluded, frame_corrected, without_report}
use Rattle.frames.specs.Steps.Received.{outer_codes}
use Rattle.frames.specs.Steps.Symbols.{Concatenated, Sent, word_in}
use Rattle.frames.specs.Steps.Passes.{provided, words_in}
use Rattle.frames.proofs.OuterSymbols.Received.{received_cases, received_first, received_padding, received_last, symbols_room}
use Rattle.frames.proofs.Answers.FrameAnswers.{frame_written, is_block_lem}
use Rattle.frames.proofs.Correction.RestoredWords.{frame_kept, answer_is}

-- ---- the two passes

-- the outer words of bits that agree on a block agree
module _ (b c : ℕ → ℕ) (same : (i : ℕ) → i < 130560 → b i ≡ c i) where
  received_bit_same : (r : ℕ) → r < 124930 → received_bit b r ≡ received_bit c r
  received_bit_same r l =
      received_cases (λ x. x ≡ received_bit c r) b r (λ h. same r (omega arith) ∙ sym (received_first c r h)) (λ g h. sym (received_padding c r g h))
      (λ g. same (r - 2) (omega arith) ∙ sym (received_last c r g))

  received_same : (w : ℕ) → w < 16 → received_word b w ≡ received_word c w
  unfolding received_word received_symbol symbol_at
  received_same w k =
      tabulate_same (data_in w + 16) _ _ (λ s l.
      number_of_same 10 _ _ (λ j m. received_bit_same (10 * (781 * w + s) + j) (omega (arith, symbols_room w s k l))))

-- the outer pass over a block after the inner pass
pub passes_done : (block passed frame : List ℕ) (x : ℕ) (t : Bool) → InnerPassed block passed x → provided t frame ≡ outer_frame (bit_at passed) →
    provided t frame ≡ restored_frame block
unfolding restored_frame outer_frame outer_pass outer_restored
passes_done block passed frame x t p e =
    e ∙ ap (λ (os : List (Option (List ℕ))). map frame_of_words (every_of os)) (tabulate_same 16 _ _ (λ w k.
    ap (nearest (is_permitted w) 1024 8) (received_same (bit_at passed) (inner_pass (bit_at block)) p.bits w k)))

-- no inner word is left
pub none_left : (block passed : List ℕ) (x : ℕ) → InnerPassed block passed x → eqb x 0 ≡ true → inner_codes (bit_at passed) ≡ true
none_left block passed x p t = sym (none_wrong (bit_at passed) x p.wrong) ∙ t

-- ---- the outer pass

-- the words of outer symbols stand in them
symbols_words : (outer : List ℕ) → length outer ≡ 12496 → Concatenated (words_in outer) outer
unfolding words_in word_in
symbols_words outer long =
    record {
      long = long;
      place = λ w s k l. sym (ap (λ (c : List ℕ). at c s) (tabulate_at 16 _ w [] k) ∙ tabulate_at (data_in w + 16) _ s 0 l);
    }

-- a block that is a frame already
pub pass_kept : (passed : List ℕ) (s t : Bool) → length passed ≡ 16320 → ((i : ℕ) → Fits w8 (get_or passed i 0)) →
    (s ≡ true → inner_codes (bit_at passed) ≡ true) → s ≡ true → t ≡ outer_codes (bit_at passed) → t ≡ true → provided true passed ≡ outer_frame (bit_at passed)
unfolding provided
pass_kept passed s t long bytes inner hs et h = sym (frame_kept passed (is_block_lem passed long bytes) (sym et ∙ h) (inner hs))

module _ (passed next : List ℕ) (t : Bool) (restored : provided t (words_in next) ≡ every_of (outer_pass (bit_at passed))) where
  pub pass_none : t ≡ false → provided false passed ≡ outer_frame (bit_at passed)
  unfolding outer_frame provided
  pass_none h = rw (← restored, h)

  pub pass_written : t ≡ true → (mid out : List ℕ) → length next ≡ 12496 → Sent next mid → out ≡ bytes_of 16320 (with_parity (bit_at mid)) →
      provided true out ≡ outer_frame (bit_at passed)
  unfolding outer_frame provided
  pass_written h mid out long sent made =
      rw (← restored, h, made ∙ frame_written (words_in next) next mid (symbols_words next long) sent)

-- ---- the entry

pub none_counted : replicate 64 0 ≡ no_counts
unfolding no_counts tabulate
none_counted = refl

-- the frame that is written, with its report
pub frame_reported : (b o frame out d p : List ℕ) (m n : ℕ) → out ≡ frame → d ≡ counts_between 0 1952 b frame → p ≡ counts_between 1952 2040 b frame → m ≡ total d → n ≡ total p →
    ◌≡◌ {A = CorrectorAnswer} (0, d, p, m + n, out) (reported b o (some frame))
unfolding reported data_counts parity_counts all_counted
frame_reported b o frame out d p m n eo ed ep em en = rw (em, en, ed, ep, eo)

module _ (b o : List ℕ) where
  pub correct_length : (length b ≡ 16320 → ⊥) → (n sum : ℕ) (d p : List ℕ) → n ≡ 2 → d ≡ no_counts → p ≡ no_counts → sum ≡ 0 →
      ◌≡◌ {A = CorrectorAnswer} (n, d, p, sum, o) (frame_corrected b o)
  unfolding frame_corrected concluded refused
  correct_length f n sum d p en ed ep es = rw (ne_eqb (length b) 16320 f, en, ed, ep, es)

  module _ (e : length b ≡ 16320) where
    pub correct_space : (length o ≡ 16320 → ⊥) → (n sum : ℕ) (d p : List ℕ) → n ≡ 3 → d ≡ no_counts → p ≡ no_counts → sum ≡ 0 →
        ◌≡◌ {A = CorrectorAnswer} (n, d, p, sum, o) (frame_corrected b o)
    unfolding frame_corrected concluded refused
    correct_space f n sum d p en ed ep es = rw (eq-eqb (length b) 16320 e, ne_eqb (length o) 16320 f, en, ed, ep, es)

    module _ (f : length o ≡ 16320) (t : Bool) (frame : List ℕ) (told : provided t frame ≡ restored_frame b) where
      pub correct_none : t ≡ false → (n sum : ℕ) (d p : List ℕ) → n ≡ 5 → d ≡ no_counts → p ≡ no_counts → sum ≡ 0 →
          ◌≡◌ {A = CorrectorAnswer} (n, d, p, sum, o) (frame_corrected b o)
      unfolding reported refused provided
      correct_none h n sum d p en ed ep es =
          let refusal : ◌≡◌ {A = CorrectorAnswer} (n, d, p, sum, o) (reported b o none) = rw (en, ed, ep, es) in
          refusal ∙ sym (answer_is b o e f none (sym told ∙ ap (λ (x : Bool). provided x frame) h))

      pub correct_written : t ≡ true → (r : CorrectorAnswer) → r ≡ reported b o (some frame) → r ≡ frame_corrected b o
      unfolding provided
      correct_written h r er = er ∙ sym (answer_is b o e f (some frame) (sym told ∙ ap (λ (x : Bool). provided x frame) h))

-- what the C host is told of an answer
pub report_left_out : (a : CorrectorAnswer) (n sum : ℕ) (d p out : List ℕ) → ◌≡◌ {A = CorrectorAnswer} (n, d, p, sum, out) a → ◌≡◌ {A = ℕ × List ℕ} (n, out) (without_report a)
unfolding without_report
report_left_out a n sum d p out e = ap without_report e
