-- Demand 1: each entry answers the number of the first rule that is broken, and a number that is not 0 leaves the buffer as it was. Assumes nothing.
use mathlib.Core.Path.{◌≡◌, refl, sym, ◌∙◌}
use mathlib.Core.Bool.{Bool, true, false, cond, and-eq-true_iff}
use mathlib.Core.List.{List, [], ◌∷◌}
use mathlib.Core.Option.{Option, none, some}
use Prim.Native.Nat.{ℕ, zero, suc}
use native.Mathlib.Omega.{arith}
use borrow.Author.Tests.{eqb-true, leb-true}
use lib.Dec.{eqb, leb, eqb-suc-zero}
use lib.ListN.{length}
use Rattle.fields.specs.Places.{at, all_below, apart}
use Rattle.words.specs.Corrections.{Corrected, Refused, refusal_of, changed_of}
use Rattle.words.specs.InnerCorrections.{inner_refusal_of, data_changed_of, parity_changed_of}
use Rattle.words.specs.InnerCorrections as Inner
use Rattle.words.specs.Bits.{bits_of, bytes_of}
use Rattle.words.specs.OuterCode.{is_outer, outer_parity}
use Rattle.words.specs.InnerCode.{is_inner}
use Rattle.words.specs.Nearest.{is_some, nearest}
use Rattle.words.specs.Answers.{unless, refusal, within, answered, first_of, found, corrected, inner_changes, outer_checked, outer_encoded, outer_corrected, inner_checked, inner_encoded, inner_corrected}
use Rattle.words.proofs.Bits.Bytes.{bytes_length}
use Rattle.words.proofs.Codes.Proved.{codes}
use Rattle.frames.specs.Frames.{outer_words, frame_of, payload_of}
use Rattle.frames.specs.Correction.{restored_frame}
use Rattle.frames.specs.Answers.{is_frame, frame_encoded, frame_checked, payload_extracted, refused, reported, concluded, frame_corrected, without_report}
use Rattle.frames.specs.Demands.{first_broken, Refuses, without_counts, Demand1}
use Rattle.frames.proofs.Frames.FrameBits.{block_is, payload_of_length, frame_length}
use Rattle.frames.proofs.Correction.RestoredWords.{is_frame_lem}

-- where no rule is broken the first holds, and those after it
pub none_broken : (test : Bool) (n next : ℕ) → unless test (suc n) next ≡ 0 → (test ≡ true) × (next ≡ 0)
none_broken true n next e = (refl, e)
none_broken false n next e = absurd (omega arith)

-- ---- entries that write

module _ (buffer : List ℕ) (rules : List (ℕ × Bool)) where
  refuses : (n : ℕ) → n ≡ first_broken rules → Refuses (n, buffer) buffer rules
  refuses n e = record { number = e; kept = λ f. refl; fits = refl }

  writes : (answer : List ℕ) → 0 ≡ first_broken rules → length answer ≡ length buffer → Refuses (0, answer) buffer rules
  writes answer e long = record { number = e; kept = λ f. absurd (f refl); fits = long }

-- encoders and extractor: the second rule is the size of the buffer
module _ (buffer answer : List ℕ) (size n : ℕ) (test : Bool) (rest : List (ℕ × Bool)) where
  abbrev rules : List (ℕ × Bool)
  rules = (suc n, test) ∷ (3, eqb (length buffer) size) ∷ rest

  answers : length answer ≡ size → Refuses (answered (first_broken rules) answer buffer) buffer rules
  unfolding answered first_broken
  answers long = go (first_broken rules) refl
    where
      go : (k : ℕ) → first_broken rules ≡ k → Refuses (answered k answer buffer) buffer rules
      go zero e =
          let room = (none_broken (eqb (length buffer) size) 2 _ (none_broken test n _ e).1).0 in
          writes buffer rules answer (sym e) (long ∙ sym (eqb-true (length buffer) size room))
      go (suc k) e = rw (eqb-suc-zero k) (refuses buffer rules (suc k) (sym e))

-- the corrector
module _ (block buffer : List ℕ) where
  block_concluded : (long room : Bool) (restored : Option (List ℕ)) → (room ≡ true → length buffer ≡ 16320) →
      ((frame : List ℕ) → restored ≡ some frame → length frame ≡ 16320) →
      Refuses (without_report (concluded (unless long 2 (unless room 3 0)) block buffer restored)) buffer ((2, long) ∷ (3, room) ∷ (5, is_some restored) ∷ [])
  unfolding concluded reported refused without_report first_broken
  block_concluded false room restored fits size = refuses buffer _ 2 refl
  block_concluded true false restored fits size = refuses buffer _ 3 refl
  block_concluded true true none fits size = refuses buffer _ 5 refl
  block_concluded true true (some frame) fits size = writes buffer _ frame refl (size frame refl ∙ sym (fits refl))

  -- whatever is refused, before the passes or after them, is answered by its number alone
  concluded_alone : (n : ℕ) (restored : Option (List ℕ)) →
      (let a = concluded n block buffer restored in (a.0 ≡ 0 → ⊥) → a ≡ refused a.0 buffer)
  unfolding concluded reported refused
  concluded_alone zero none f = refl
  concluded_alone zero (some frame) f = absurd (f refl)
  concluded_alone (suc n) restored f = rw (eqb-suc-zero n)

-- ---- single words

word_checked : (long symbols code : Bool) → first_of (refusal long true symbols) (unless code 4 0) ≡ first_broken ((6, long) ∷ (7, symbols) ∷ (4, code) ∷ [])
unfolding first_of refusal first_broken
word_checked true true true = refl
word_checked true true false = refl
word_checked true false code = refl
word_checked false symbols code = refl

-- correction: refusals and changes in answers of any form
module _ {A : Type 0} (refusedBy : ℕ → A) (changes : List ℕ → A) (content : List ℕ → List ℕ) (buffer : List ℕ) where
  module _ (number : A → ℕ) (of-refused : (n : ℕ) → number (refusedBy n) ≡ n) (of-changes : (c : List ℕ) → number (changes c) ≡ 0) where
    word_corrected_lem : (long room symbols : Bool) (near : Option (List ℕ)) →
        (long ≡ true → room ≡ true → (c : List ℕ) → near ≡ some c → length (content c) ≡ length buffer) →
        (let a = corrected refusedBy (refusal long room symbols) buffer (found refusedBy changes content buffer near) in
        Refuses (number a.0, a.1) buffer ((6, long) ∷ (3, room) ∷ (7, symbols) ∷ (5, is_some near) ∷ []))
    unfolding corrected refusal found first_broken
    word_corrected_lem false room symbols near fits = refuses buffer _ _ (of-refused 6)
    word_corrected_lem true false symbols near fits = refuses buffer _ _ (of-refused 3)
    word_corrected_lem true true false near fits = refuses buffer _ _ (of-refused 7)
    word_corrected_lem true true true none fits = refuses buffer _ _ (of-refused 5)
    word_corrected_lem true true true (some c) fits = rw (of-changes c) (writes buffer _ (content c) refl (fits refl refl c refl))

  -- no refusal has the number 0
  module _ (P : A → Type 0) (of-refused : (n : ℕ) → P (refusedBy (suc n))) (of-changes : (c : List ℕ) → P (changes c)) where
    word_alone : (long room symbols : Bool) (near : Option (List ℕ)) → P (corrected refusedBy (refusal long room symbols) buffer (found refusedBy changes content buffer near)).0
    unfolding corrected refusal found
    word_alone false room symbols near = of-refused 5
    word_alone true false symbols near = of-refused 2
    word_alone true true false near = of-refused 6
    word_alone true true true none = of-refused 4
    word_alone true true true (some c) = of-changes c

-- the code word within eight symbols is as long as the word
outer_fits : (word buffer c : List ℕ) → within 17 1023 (length word) ≡ true → eqb (length buffer) (length word) ≡ true → nearest is_outer 1024 8 word ≡ some c →
    length c ≡ length buffer
unfolding within
outer_fits word buffer c long room near =
    let short = leb-true (length word) 1023 ((and-eq-true_iff (leb 17 (length word)) (leb (length word) 1023)).0 long).1 in
    ((codes.outer_nearest (length word) short).sound word c refl near).0 ∙ sym (eqb-true (length buffer) (length word) room)

inner_corrected_lem : (word buffer : List ℕ) →
    Refuses (without_counts (inner_corrected word buffer)) buffer
    ((6, eqb (length word) 255) ∷ (3, eqb (length buffer) 255) ∷ (5, is_some (nearest is_inner 2 8 (bits_of word))) ∷ [])
unfolding inner_corrected inner_changes first_broken
inner_corrected_lem word buffer =
    let bits = bits_of word in
    let r = word_corrected_lem Inner.Refused (inner_changes bits) (λ c. bytes_of 255 (at c)) buffer inner_refusal_of (λ n. refl) (λ c. refl)
    (eqb (length word) 255) (eqb (length buffer) 255) true (nearest is_inner 2 8 bits)
    (λ long room c near. bytes_length 255 (at c) ∙ sym (eqb-true (length buffer) 255 room)) in
    record { number = r.number; kept = r.kept; fits = r.fits }

pub demand_1 : Demand1
unfolding frame_encoded frame_checked payload_extracted frame_corrected without_report frame_of
    outer_checked outer_encoded outer_corrected inner_checked inner_encoded inner_corrected inner_changes refusal first_broken
demand_1 =
    record {
      encode = λ payload buffer. answers buffer (frame_of payload) 16320 0 (eqb (length payload) 15296) [] (frame_length (outer_words payload));
      check = λ block. refl;
      extract = λ block buffer. answers buffer (payload_of block) 15296 1 (eqb (length block) 16320) ((4, is_frame block) ∷ []) (payload_of_length block);
      correct = λ block buffer.
          block_concluded block buffer (eqb (length block) 16320) (eqb (length buffer) 16320) (restored_frame block) (eqb-true (length buffer) 16320)
          (λ frame e. (block_is frame (is_frame_lem block frame e).0).0);
      correct_alone = λ block buffer. concluded_alone block buffer _ (restored_frame block);
      correct_c = λ block buffer. refl;
      check_outer = λ word. word_checked (within 17 1023 (length word)) (all_below 1024 word) (is_outer word);
      encode_outer = λ d buffer. answers buffer (outer_parity d) 16 5 (within 1 1007 (length d)) ((7, all_below 1024 d) ∷ []) (codes.outer_length d);
      correct_outer = λ word buffer.
          word_corrected_lem Refused (λ c. Corrected (apart word c)) (λ c. c) buffer refusal_of (λ n. refl) (λ c. refl)
          (within 17 1023 (length word)) (eqb (length buffer) (length word)) (all_below 1024 word) (nearest is_outer 1024 8 word) (λ long room c. outer_fits word buffer c long room);
      outer_alone = λ word buffer.
          word_alone Refused (λ c. Corrected (apart word c)) (λ c. c) buffer (λ a. a ≡ cond (eqb (refusal_of a) 0) (Corrected (changed_of a)) (Refused (refusal_of a)))
          (λ n. rw (eqb-suc-zero n)) (λ c. refl) (within 17 1023 (length word)) (eqb (length buffer) (length word)) (all_below 1024 word) (nearest is_outer 1024 8 word);
      check_inner = λ word. word_checked (eqb (length word) 255) true (is_inner (bits_of word));
      encode_inner = λ d buffer. answers buffer _ 11 5 (eqb (length d) 244) [] (bytes_length 11 _);
      correct_inner = inner_corrected_lem;
      inner_alone = λ word buffer.
          word_alone Inner.Refused (inner_changes (bits_of word)) (λ c. bytes_of 255 (at c)) buffer
          (λ a. a ≡ cond (eqb (inner_refusal_of a) 0) (Inner.Corrected (data_changed_of a) (parity_changed_of a)) (Inner.Refused (inner_refusal_of a)))
          (λ n. rw (eqb-suc-zero n)) (λ c. refl) (eqb (length word) 255) (eqb (length buffer) 255) true (nearest is_inner 2 8 (bits_of word));
    }
