-- What the entries answer is what document 03 asks of the calls that encode, check, extract and correct. Assumes nothing.
use mathlib.Core.Path.{◌≡◌, refl, sym, ap, ◌∙◌, subst}
use mathlib.Core.Bool.{Bool, true, false, not}
use mathlib.Core.List.{List}
use mathlib.Core.Logic.{inl, inr}
use Prim.Native.Nat.{ℕ, suc}
use native.Mathlib.Omega.{arith}
use borrow.Author.Tests.{eqb-true}
use lib.Dec.{eqb}
use lib.ListN.{length}
use Rattle.fields.specs.Lists.{tabulate}
use Rattle.fields.specs.Places.{at}
use Rattle.words.specs.Bits.{bit_at}
use Rattle.words.specs.Answers.{unless}
use Rattle.words.specs.InnerWords.{inner_pass}
use Rattle.words.proofs.Bits.Bytes.{bits_at}
use Rattle.frames.specs.Frames as Frames
use Rattle.frames.specs.Correction as Correction
use Rattle.frames.specs.Answers.{frame_encoded, frame_checked, payload_extracted, CorrectorAnswer, refused, concluded, frame_corrected}
use Rattle.frames.specs.Answers as Answers
use Rattle.frames.proofs.Demands.{two_passes}
use Rattle.document03.proofs.Counts.{together}
use Rattle.document03.proofs.Words.Statements.{when}
use Rattle.document03.proofs.Words.Says.{first_of, bits_of}
use Rattle.document03.proofs.Words.SaysHold.{answered_says}
use Rattle.document03.proofs.Frames.Statements.{frame_of_words}
use Rattle.document03.proofs.Frames.Menders.{report_of, total}
use Rattle.document03.proofs.Frames.Says.{MakeSays, is_frame, CheckSays, ReadSays, mend_fault, Refused, MendWith, MendSays}
use Rattle.document03.proofs.Frames.ListsAgree.{bits_long, bit_at_lem}
use Rattle.document03.proofs.Frames.PayloadsAgree.{payload_agrees}
use Rattle.document03.proofs.Frames.FramesAgree.{sixteen_words, words_bytes, frame_bytes_lem, is_frame_agrees}
use Rattle.document03.proofs.Frames.PassesAgree.{Outcome, restored_mends, uncorrectable_beyond}
use Rattle.document03.proofs.Frames.ReportsAgree.{report_agrees, sum_agrees}
use Rattle.document03.proofs.Frames.StatementsHold.{words_frame_agrees}

-- refusals, the first and the last; what follows matters only if the test holds
refused_first : (test : Bool) (n next next' : ℕ) → (test ≡ true → next ≡ next') → unless test (suc n) next ≡ first_of (when (not test) (suc n)) next'
refused_first true n next next' h = h refl
refused_first false n next next' h = refl

refused_last : (test : Bool) (n : ℕ) → unless test n 0 ≡ when (not test) n
refused_last true n = refl
refused_last false n = refl

-- where nothing is refused the test holds
passed : (test : Bool) (n next : ℕ) → first_of (when (not test) (suc n)) next ≡ 0 → test ≡ true
passed true n next e = refl
passed false n next e = absurd (omega arith)

pub make_says : (p o o' : List ℕ) (r : ℕ) → ◌≡◌ {A = ℕ × List ℕ} (r, o') (frame_encoded p o) → MakeSays p o o' r
unfolding frame_encoded
make_says p o o' r e =
    let long = eqb (length p) 15296 in
    answered_says _ _ o o' r _ _ e (refused_first long 0 _ _ (λ t. refused_last (eqb (length o) 16320) 3))
    (λ z. sym (frame_bytes_lem p (eqb-true (length p) 15296 (passed long 0 _ z))))

block_says : (b : List ℕ) → eqb (length b) 16320 ≡ true → unless (Answers.is_frame b) 4 0 ≡ when (not (is_frame b)) 4
block_says b t = refused_last (Answers.is_frame b) 4 ∙ ap (λ (test : Bool). when (not test) 4) (sym (is_frame_agrees b (eqb-true (length b) 16320 t)))

pub check_says : (b : List ℕ) (r : ℕ) → r ≡ frame_checked b → CheckSays b r
unfolding frame_checked
check_says b r e = e ∙ refused_first (eqb (length b) 16320) 1 _ _ (block_says b)

pub read_says : (b o o' : List ℕ) (r : ℕ) → ◌≡◌ {A = ℕ × List ℕ} (r, o') (payload_extracted b o) → ReadSays b o o' r
unfolding payload_extracted
read_says b o o' r e =
    let long = eqb (length b) 16320 in
    answered_says _ _ o o' r _ _ e (refused_first long 1 _ _ (λ t. refused_first (eqb (length o) 15296) 2 _ _ (λ u. block_says b t)))
    (λ z. sym (payload_agrees b (eqb-true (length b) 16320 (passed long 1 _ z))))

-- ---- corrections

refused_says : (n : ℕ) (o : List ℕ) → (let r = refused n o in Refused n o r.4 r.0 (together r.1 r.2) r.3)
unfolding refused tabulate Answers.no_counts together
refused_says n o = (refl, refl, refl, refl)

module _ (b o : List ℕ) where
  length_refused : eqb (length b) 16320 ≡ false → frame_corrected b o ≡ refused 2 o
  unfolding frame_corrected concluded
  length_refused e = rw e

  space_refused : eqb (length b) 16320 ≡ true → eqb (length o) 16320 ≡ false → frame_corrected b o ≡ refused 3 o
  unfolding frame_corrected concluded
  space_refused e f = rw (e, f)

module _ (b o : List ℕ) where
  abbrev Said : ℕ → CorrectorAnswer → Type 0
  Said fault r = MendWith fault b o r.4 r.0 (together r.1 r.2) r.3

  -- a block and a buffer of their lengths
  block_corrected_lem : length b ≡ 16320 → length o ≡ 16320 → Said 0 (frame_corrected b o)
  block_corrected_lem lb lo = go (two_passes.one_or_other b)
    where
      bits : length (bits_of b) ≡ 130560
      bits = bits_long b ∙ omega arith

      go : Outcome (inner_pass (bit_at b)) → Said 0 (frame_corrected b o)
      go (inl (ws, r)) =
          let frame = Frames.frame_of_words ws in
          let words = sixteen_words ws r.sixteen r.long in
          let e : report_of (bits_of b) (frame_of_words ws) ≡ together (Correction.data_counts b frame) (Correction.parity_counts b frame) =
          report_agrees (bits_of b) (frame_of_words ws) b frame (bit_at_lem b) (λ i. ap (λ (xs : List ℕ). at xs i) (words_frame_agrees ws words) ∙ bits_at frame i) in
          subst (Said 0) (sym (two_passes.corrected b o ws lb lo r))
          (inl (
            frame_of_words ws,
            restored_mends (bits_of b) (bit_at b) bits (bit_at_lem b) ws r,
            refl,
            sym (words_bytes ws words),
            sym e,
            sym (ap total e ∙ sum_agrees b frame),
          ))
      go (inr (w, l, far)) =
          subst (Said 0) (sym (two_passes.uncorrectable b o w lb lo l far))
          (inr (uncorrectable_beyond (bits_of b) (bit_at b) bits (bit_at_lem b) w l far, refused_says 5 o))

  corrected_says : Said (mend_fault b o) (frame_corrected b o)
  corrected_says = go (eqb (length b) 16320) (eqb (length o) 16320) refl refl
    where
      go : (t u : Bool) → eqb (length b) 16320 ≡ t → eqb (length o) 16320 ≡ u → Said (first_of (when (not t) 2) (when (not u) 3)) (frame_corrected b o)
      go true true e f = block_corrected_lem (eqb-true (length b) 16320 e) (eqb-true (length o) 16320 f)
      go true false e f = subst (Said 3) (sym (space_refused b o e f)) (refused_says 3 o)
      go false u e f = subst (Said 2) (sym (length_refused b o e)) (refused_says 2 o)

  pub mend_says : (o' d p : List ℕ) (n s : ℕ) → ◌≡◌ {A = CorrectorAnswer} (n, d, p, s, o') (frame_corrected b o) → MendSays b o o' n (together d p) s
  mend_says o' d p n s e = subst (Said (mend_fault b o)) (sym e) corrected_says
