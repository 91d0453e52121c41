-- The two passes of the corrector: what they make of the words of a received block, and that a restored frame is one that the encoder writes.
-- Assumes nothing.
use mathlib.Core.Path.{◌≡◌, refl, sym, ap, ◌∙◌, subst}
use mathlib.Core.Bool.{Bool, true, false, not, cond}
use mathlib.Core.List.{List, []}
use mathlib.Core.Logic.{◌⊎◌, inl, inr}
use mathlib.Core.Option.{Option, none, some}
use Prim.Native.Nat.{ℕ, ◌+◌, ◌*◌, ◌/◌, ◌%◌, ◌≤◌, ◌<◌}
use native.Mathlib.Omega.{arith}
use borrow.Author.Tests.{eq-eqb}
use lib.Dec.{eqb}
use lib.ListN.{length, get_or}
use Rattle.fields.specs.Places.{apart}
use Rattle.fields.proofs.Lists.{tabulate_at, tabulate_is, tabulate_length}
use Rattle.fields.proofs.Places.Tests.{every_at}
use Rattle.fields.proofs.Places.Differences.{apart_self}
use Rattle.words.specs.Bits.{bit_at}
use Rattle.words.specs.OuterCode.{is_outer}
use Rattle.words.specs.InnerCode.{is_inner}
use Rattle.words.specs.Nearest.{is_some, nearest, Decodes, every_of}
use Rattle.words.specs.Answers.{unless}
use Rattle.words.specs.InnerWords.{inner_word, inner_restored, inner_pass, is_lost}
use Rattle.words.proofs.Codes.OuterWords.{outer_is}
use Rattle.words.proofs.Codes.InnerWords.{inner_is}
use Rattle.words.proofs.Codes.Nearest.{nearest_lost}
use Rattle.words.proofs.Codes.Proved.{codes}
use Rattle.inner_words.specs.Steps.Passes.{inner_codes}
use Rattle.inner_words.proofs.Interleaving.InterleavedBits.{inner_word_length}
use Rattle.inner_words.proofs.Passes.InnerPass.{restored_none, restored_some, restored_length, restored_is}
use Rattle.frames.specs.Frames.{is_block, data_in, outer_word, outer_words, frame_of_words, frame_of, payload_of}
use Rattle.frames.specs.Correction.{received_word, is_permitted, outer_restored, outer_pass, outer_frame, restored_frame, data_counts, parity_counts, all_counted}
use Rattle.frames.specs.Answers.{is_frame, CorrectorAnswer, refused, reported, concluded, frame_corrected}
use Rattle.frames.specs.Steps.Received.{outer_codes}
use Rattle.frames.specs.Demands.{Uncorrectable, Restored}
use Rattle.frames.proofs.Frames.FrameBits.{frame_block, frame_inner, data_in_le, outer_word_length, payload_of_length}
use Rattle.frames.proofs.OuterSymbols.Received.{received_length, received_words, received_own, code_words_frame, same_frame}
use Rattle.words.proofs.Codes.Options.{some_same, some_not_none, every_some, every_missing, every_none, every_all}
use Rattle.frames.proofs.OuterSymbols.Permitted.{permitted_is, permitted_nearest, padded_symbols, payload_permitted}

-- ---- the inner pass

module _ (b : ℕ → ℕ) (k : ℕ) where
  -- the inner words after the pass are the restored words
  passed_word : k < 64 → inner_word (inner_pass b) k ≡ inner_restored (inner_word b k)
  unfolding inner_word inner_pass
  passed_word l =
      sym (tabulate_is 2040 _ (inner_restored (inner_word b k)) 0 (restored_length (inner_word b k) (inner_word_length b k)) (λ p h.
      let q : (64 * p + k) % 64 ≡ k = omega arith in
      let r : (64 * p + k) / 64 ≡ p = omega arith in
      rw (q, r)))

  -- the code word within eight places; without one, the word as received
  pub inner_near : (c : List ℕ) → k < 64 → is_inner c ≡ true → apart (inner_word b k) c ≤ 8 → inner_word (inner_pass b) k ≡ c
  inner_near c l code near =
      passed_word l
      ∙ restored_some (inner_word b k) c (codes.inner_nearest.complete (inner_word b k) c (inner_word_length b k) (inner_is c code).long code near)

  pub inner_lost : k < 64 → ((c : List ℕ) → is_inner c ≡ true → 8 < apart (inner_word b k) c) → inner_word (inner_pass b) k ≡ inner_word b k
  inner_lost l far = passed_word l ∙ restored_none (inner_word b k) (nearest_lost is_inner 2 8 (inner_word b k) (λ c code long. far c code))

  -- the words that are left as received are those without a code word within eight places
  pub lost_far : is_lost b k ≡ true → (c : List ℕ) → is_inner c ≡ true → 8 < apart (inner_word b k) c
  unfolding is_lost
  lost_far t c code = go (nearest is_inner 2 8 (inner_word b k)) refl t
    where
      go : (o : Option (List ℕ)) → nearest is_inner 2 8 (inner_word b k) ≡ o → not (is_some o) ≡ true → 8 < apart (inner_word b k) c
      go none e t = codes.inner_nearest.none_means_none (inner_word b k) c (inner_word_length b k) e (inner_is c code).long code
      go (some d) e t = absurd (omega (arith, ap {B = ℕ} (λ (t : Bool). cond t 0 1) t))

  pub lost_only : ((c : List ℕ) → is_inner c ≡ true → 8 < apart (inner_word b k) c) → is_lost b k ≡ true
  unfolding is_lost
  lost_only far = rw (nearest_lost is_inner 2 8 (inner_word b k) (λ c code long. far c code))

  -- and those that are no code words after the pass
  pub lost_wrong : k < 64 → is_inner (inner_word (inner_pass b) k) ≡ not (is_lost b k)
  unfolding is_lost
  lost_wrong l = ap is_inner (passed_word l) ∙ restored_is (inner_word b k) (inner_word_length b k) ∙ twice (is_some (nearest is_inner 2 8 (inner_word b k)))
    where
      twice : (t : Bool) → t ≡ not (not t)
      twice true = refl
      twice false = refl

-- ---- the outer pass

decodes_word : (w : ℕ) → Decodes (is_permitted w) 1024 8 (data_in w + 16)
decodes_word w = permitted_nearest w (data_in w + 16) (omega (arith, data_in_le w))

module _ (b : ℕ → ℕ) where
  -- a word: the permitted code word within eight symbols, or nothing
  word_found : (w : ℕ) (c : List ℕ) → outer_restored b w ≡ some c →
      (length c ≡ data_in w + 16) × (is_permitted w c ≡ true) × (apart (received_word b w) c ≤ 8)
  unfolding outer_restored
  word_found w c = (decodes_word w).sound (received_word b w) c (received_length b w)

  pub outer_near : (w : ℕ) (c : List ℕ) → is_permitted w c ≡ true → length c ≡ data_in w + 16 → apart (received_word b w) c ≤ 8 → outer_restored b w ≡ some c
  unfolding outer_restored
  outer_near w c h long near = (decodes_word w).complete (received_word b w) c (received_length b w) long h near

  pub outer_lost : (w : ℕ) → Uncorrectable b w → outer_restored b w ≡ none
  unfolding outer_restored
  outer_lost w far = nearest_lost (is_permitted w) 1024 8 (received_word b w) (λ c p long. far c p (long ∙ received_length b w))

  -- all of them: the words, just where all sixteen outer words have one
  pass_restored : (ws : List (List ℕ)) → every_of (outer_pass b) ≡ some ws → Restored b ws
  unfolding outer_pass
  pass_restored ws e =
      let all = every_all 16 (outer_restored b) ws [] e in
      record {
        sixteen = all.0;
        long = λ w k. (word_found w (get_or ws w []) (all.1 w k)).0;
        permitted = λ w k. (word_found w (get_or ws w []) (all.1 w k)).1;
        near = λ w k. (word_found w (get_or ws w []) (all.1 w k)).2;
      }

  restored_pass : (ws : List (List ℕ)) → Restored b ws → every_of (outer_pass b) ≡ some ws
  unfolding outer_pass
  restored_pass ws r =
      every_some 16 (outer_restored b) (λ w. get_or ws w []) (λ w k. outer_near w (get_or ws w []) (r.permitted w k) (r.long w k) (r.near w k))
      ∙ ap some (sym (tabulate_is 16 (λ w. get_or ws w []) ws [] r.sixteen (λ w k. refl)))

  -- and nothing just where some outer word has none
  lost_pass : (w : ℕ) → w < 16 → Uncorrectable b w → every_of (outer_pass b) ≡ none
  unfolding outer_pass
  lost_pass w k far = every_missing 16 (outer_restored b) w k (outer_lost w far)

  pass_lost : every_of (outer_pass b) ≡ none → (w : ℕ) × (w < 16) × Uncorrectable b w
  unfolding outer_pass outer_restored
  pass_lost e =
      let missing = every_none 16 (outer_restored b) e in
      let w = missing.0 in
      (w, missing.1, λ c p long. (decodes_word w).none_means_none (received_word b w) c (received_length b w) missing.2 long p)

  pub one_or_other : ((ws : List (List ℕ)) × Restored b ws) ⊎ ((w : ℕ) × (w < 16) × Uncorrectable b w)
  one_or_other = go (every_of (outer_pass b)) refl
    where
      go : (o : Option (List (List ℕ))) → every_of (outer_pass b) ≡ o → ((ws : List (List ℕ)) × Restored b ws) ⊎ ((w : ℕ) × (w < 16) × Uncorrectable b w)
      go none e = inr (pass_lost e)
      go (some ws) e = inl (ws, pass_restored ws e)

  -- sixteen permitted words are those of their frame, which is one that the encoder writes
  restored_frame_lem : (ws : List (List ℕ)) → Restored b ws → is_frame (frame_of_words ws) ≡ true
  restored_frame_lem ws r =
      let padding = padded_symbols ws (permitted_is 15 (get_or ws 15 []) (r.permitted 15 (omega arith))).1 in
      same_frame (frame_of_words ws) (code_words_frame (frame_of_words ws) (frame_block ws)
      (λ w k.
      let code = (permitted_is w (get_or ws w []) (r.permitted w k)).0 in
      ap is_outer (received_words ws padding w k (r.long w k) (outer_is (get_or ws w []) code).symbols) ∙ code) (frame_inner ws))

-- a block whose outer and inner words are all code words is the frame that the outer pass gives
pub frame_kept : (b : List ℕ) → is_block b ≡ true → outer_codes (bit_at b) ≡ true → inner_codes (bit_at b) ≡ true →
    outer_frame (bit_at b) ≡ some b
unfolding outer_frame outer_codes inner_codes frame_of outer_words
frame_kept b h outer inner = rw (restored_pass (bit_at b) (outer_words p) words) (ap some same)
  where
    p : List ℕ
    p = payload_of b

    same : frame_of p ≡ b
    same = code_words_frame b h (every_at 16 _ outer) (every_at 64 _ inner)

    own : (w : ℕ) → w < 16 → received_word (bit_at b) w ≡ outer_word p w
    own w k = subst (λ (f : List ℕ). received_word (bit_at f) w ≡ outer_word p w) same (received_own p (payload_of_length b) w k)

    word : (w : ℕ) → w < 16 → get_or (outer_words p) w [] ≡ outer_word p w
    word w k = tabulate_at 16 (outer_word p) w [] k

    words : Restored (bit_at b) (outer_words p)
    words =
        record {
          sixteen = tabulate_length 16 (outer_word p);
          long = λ w k. ap length (word w k) ∙ outer_word_length p w;
          permitted = λ w k. rw (word w k) (payload_permitted p (payload_of_length b) w k);
          near = λ w k. rw (word w k, own w k) (omega (arith, apart_self (outer_word p w)));
        }

-- ---- the restored frame

-- the bits of a block after the inner pass
abbrev pub passed : List ℕ → ℕ → ℕ
passed block = inner_pass (bit_at block)

module _ (block : List ℕ) where
  pub restored : (ws : List (List ℕ)) → Restored (passed block) ws → restored_frame block ≡ some (frame_of_words ws)
  unfolding restored_frame outer_frame
  restored ws r = rw (restored_pass (passed block) ws r)

  pub none_restored : (w : ℕ) → w < 16 → Uncorrectable (passed block) w → restored_frame block ≡ none
  unfolding restored_frame outer_frame
  none_restored w k far = rw (lost_pass (passed block) w k far)

  -- there is no third, and not both
  pub none_only : restored_frame block ≡ none → (w : ℕ) × (w < 16) × Uncorrectable (passed block) w
  none_only e = go (one_or_other (passed block))
    where
      go : ((ws : List (List ℕ)) × Restored (passed block) ws) ⊎ ((w : ℕ) × (w < 16) × Uncorrectable (passed block) w) →
          (w : ℕ) × (w < 16) × Uncorrectable (passed block) w
      go (inl r) = let z : some (frame_of_words r.0) ≡ none = sym (restored r.0 r.1) ∙ e in absurd (some_not_none (frame_of_words r.0) z)
      go (inr lost) = lost

  -- it is a frame that the encoder writes
  pub is_frame_lem : (frame : List ℕ) → restored_frame block ≡ some frame → (is_block frame ≡ true) × (is_frame frame ≡ true)
  is_frame_lem frame e = go (one_or_other (passed block))
    where
      go : ((ws : List (List ℕ)) × Restored (passed block) ws) ⊎ ((w : ℕ) × (w < 16) × Uncorrectable (passed block) w) → (is_block frame ≡ true) × (is_frame frame ≡ true)
      go (inl (ws, r)) =
          subst (λ (f : List ℕ). (is_block f ≡ true) × (is_frame f ≡ true)) (some_same (frame_of_words ws) frame (sym (restored ws r) ∙ e))
          (frame_block ws, restored_frame_lem (passed block) ws r)
      go (inr (w, k, far)) = absurd (some_not_none frame (sym e ∙ none_restored w k far))

-- ---- the corrector's answer

module _ (block buffer : List ℕ) where
  -- 2 before 3, and both before the passes
  pub answer_cases : frame_corrected block buffer
      ≡ cond (eqb (length block) 16320) (cond (eqb (length buffer) 16320) (reported block buffer (restored_frame block)) (refused 3 buffer)) (refused 2 buffer)
  unfolding frame_corrected concluded
  answer_cases = go (eqb (length block) 16320) (eqb (length buffer) 16320)
    where
      go : (s t : Bool) → cond (eqb (unless s 2 (unless t 3 0)) 0) (reported block buffer (restored_frame block)) (refused (unless s 2 (unless t 3 0)) buffer)
          ≡ cond s (cond t (reported block buffer (restored_frame block)) (refused 3 buffer)) (refused 2 buffer)
      go true true = refl
      go true false = refl
      go false t = refl

  module _ (fits : length block ≡ 16320) (room : length buffer ≡ 16320) where
    -- what is answered to what the passes restored
    pub answer_is : (o : Option (List ℕ)) → restored_frame block ≡ o → frame_corrected block buffer ≡ reported block buffer o
    unfolding frame_corrected concluded
    answer_is o e = rw (eq-eqb (length block) 16320 fits, eq-eqb (length buffer) 16320 room, e)

    pub corrected : (ws : List (List ℕ)) → Restored (passed block) ws →
        let frame = frame_of_words ws in
        frame_corrected block buffer ≡ (0, data_counts block frame, parity_counts block frame, all_counted block frame, frame)
    unfolding reported
    corrected ws r = answer_is (some (frame_of_words ws)) (restored block ws r)

    pub uncorrectable : (w : ℕ) → w < 16 → Uncorrectable (passed block) w → frame_corrected block buffer ≡ refused 5 buffer
    unfolding reported
    uncorrectable w k far = answer_is none (none_restored block w k far)

    pub uncorrectable_only : frame_corrected block buffer ≡ refused 5 buffer → (w : ℕ) × (w < 16) × Uncorrectable (passed block) w
    unfolding refused
    uncorrectable_only e = go (one_or_other (passed block))
      where
        go : ((ws : List (List ℕ)) × Restored (passed block) ws) ⊎ ((w : ℕ) × (w < 16) × Uncorrectable (passed block) w) →
            (w : ℕ) × (w < 16) × Uncorrectable (passed block) w
        go (inl r) = absurd (omega (arith, ap (λ (a : CorrectorAnswer). a.0) (sym (corrected r.0 r.1) ∙ e)))
        go (inr lost) = lost

  pub corrected_frame : (d p frame : List ℕ) (sum : ℕ) → frame_corrected block buffer ≡ (0, d, p, sum, frame) →
      (is_block frame ≡ true) × (is_frame frame ≡ true)
  unfolding frame_corrected concluded reported refused
  corrected_frame d p frame sum e = go (eqb (length block) 16320) (eqb (length buffer) 16320) (restored_frame block) refl e
    where
      go : (s t : Bool) (o : Option (List ℕ)) → restored_frame block ≡ o → concluded (unless s 2 (unless t 3 0)) block buffer o ≡ (0, d, p, sum, frame) →
          (is_block frame ≡ true) × (is_frame frame ≡ true)
      go false t o r e = absurd (omega (arith, ap (λ (a : CorrectorAnswer). a.0) e))
      go true false o r e = absurd (omega (arith, ap (λ (a : CorrectorAnswer). a.0) e))
      go true true none r e = absurd (omega (arith, ap (λ (a : CorrectorAnswer). a.0) e))
      go true true (some f) r e = is_frame_lem block frame (r ∙ ap some (ap (λ (a : CorrectorAnswer). a.4) e))
