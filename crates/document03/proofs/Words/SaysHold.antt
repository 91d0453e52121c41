-- What the entries answer is what document 03 asks of the calls that check, encode and correct single words. Assumes nothing.
use mathlib.Core.Path.{◌≡◌, refl, sym, ap, ap₂, ◌∙◌, subst}
use mathlib.Core.Bool.{Bool, true, false, not, ◌&&◌, ◌||◌, cond, and-eq-true_iff}
use mathlib.Core.List.{List}
use mathlib.Core.Logic.{inl, inr}
use mathlib.Core.Option.{Option, none, some}
use Prim.Native.Nat.{ℕ, zero, suc, ◌+◌, ◌≤◌, ◌<◌}
use native.Mathlib.Omega.{arith}
use borrow.Author.Tests.{eq-eqb, eqb-true, leb-true, leb-false, lt-ltb, le-ltb, le-leb, lt-leb}
use lib.Dec.{eqb, ltb, leb, eqb-suc-zero}
use lib.ListN.{length}
use Rattle.fields.specs.Places.{at, all_below}
use Rattle.fields.specs.Places as Places
use Rattle.words.specs.Bits as Bits
use Rattle.words.specs.OuterCode.{outer_parity}
use Rattle.words.specs.OuterCode as Outer
use Rattle.words.specs.InnerCode.{inner_parity}
use Rattle.words.specs.InnerCode as Inner
use Rattle.words.specs.Nearest.{nearest, Decodes}
use Rattle.words.specs.Answers.{unless, refusal, within, answered, outer_checked, outer_encoded, inner_checked, inner_encoded, found, corrected, outer_corrected, inner_changes, inner_corrected}
use Rattle.words.specs.Corrections.{Correction, refusal_of, changed_of}
use Rattle.words.specs.Corrections as outer
use Rattle.words.specs.InnerCorrections.{InnerCorrection, inner_refusal_of, data_changed_of, parity_changed_of}
use Rattle.words.specs.InnerCorrections as inner
use Rattle.words.specs.Answers as Answers
use Rattle.words.proofs.Bits.Bytes.{bits_below, bits_length}
use Rattle.words.proofs.Codes.InnerParity.{inner_length}
use Rattle.words.proofs.Codes.Proved.{codes}
use Rattle.words.proofs.Steps.InnerCorrection.{changes_sum}
use Rattle.document03.proofs.Fields.{pick}
use Rattle.document03.proofs.Words.Statements.{when, outer_checks, is_outer, inner_checks, is_inner, apart, is_near}
use Rattle.document03.proofs.Words.Says.{first_of, bits_of, bytes_of, outer_long, OuterCheckSays, OuterMakeSays, InnerCheckSays, InnerMakeSays, Nearest, MendedWith, OuterMendSays, InnerMendSays}
use Rattle.document03.proofs.Words.WordsAgree.{apart_agrees}
use Rattle.document03.proofs.Words.OuterAgrees.{symbols_agree, outer_agrees, parity_agrees}
use Rattle.document03.proofs.Words.InnerAgrees as InnerAgrees
use Rattle.document03.proofs.Words.BytesAgree.{bits_agree, bytes_agree}

-- a check: what is refused is told before what is no code word
check_says : (long symbols code : Bool) → Answers.first_of (refusal long true symbols) (unless code 4 0) ≡ first_of (when (not long) 6) (first_of (when (not symbols) 7) (when (not code) 4))
unfolding Answers.first_of refusal
check_says true true true = refl
check_says true true false = refl
check_says true false code = refl
check_says false symbols code = refl

pub outer_check_says : (w : List ℕ) (r : ℕ) → r ≡ outer_checked w → OuterCheckSays w r
unfolding outer_checked within
outer_check_says w r e =
    e ∙ check_says (outer_long w) (all_below 1024 w) (Outer.is_outer w)
    ∙ ap₂ (λ (s c : Bool). first_of (when (not (outer_long w)) 6) (first_of (when (not s) 7) (when (not c) 4))) (sym (symbols_agree w)) (sym (outer_agrees w))

pub inner_check_says : (w : List ℕ) (r : ℕ) → r ≡ inner_checked w → InnerCheckSays w r
unfolding inner_checked
inner_check_says w r e =
    e ∙ check_says (eqb (length w) 255) true (Inner.is_inner (Bits.bits_of w))
    ∙ ap (λ (c : Bool). first_of (when (not (eqb (length w) 255)) 6) (when (not c) 4)) (ap Inner.is_inner (sym (bits_agree w)) ∙ sym (InnerAgrees.inner_agrees (bits_of w)))

-- encoding: the refusal
refusal_says : (long fits symbols : Bool) → refusal long fits symbols ≡ first_of (when (not long) 6) (first_of (when (not fits) 3) (when (not symbols) 7))
unfolding refusal
refusal_says true true true = refl
refusal_says true true false = refl
refusal_says true false symbols = refl
refusal_says false fits symbols = refl

none_refused : (long fits symbols : Bool) → refusal long fits symbols ≡ 0 → (long ≡ true) × (symbols ≡ true)
unfolding refusal
none_refused true true true e = (refl, refl)
none_refused true true false e = absurd (omega arith)
none_refused true false symbols e = absurd (omega arith)
none_refused false fits symbols e = absurd (omega arith)

-- the answer, if there is no refusal, else the buffer as it was
module _ (answer answer' o o' : List ℕ) (r : ℕ) where
  stored : (f : ℕ) → (f ≡ 0 → answer ≡ answer') → cond (eqb f 0) answer o ≡ pick (eqb f 0) answer' o
  stored zero h = h refl
  stored (suc f) h = rw (eqb-suc-zero f)

  pub answered_says : (n f : ℕ) → ◌≡◌ {A = ℕ × List ℕ} (r, o') (answered n answer o) → n ≡ f → (f ≡ 0 → answer ≡ answer')
      → (r ≡ f) × (o' ≡ pick (eqb f 0) answer' o)
  unfolding answered
  answered_says n f e q h =
      (ap (λ (a : ℕ × List ℕ). a.0) e ∙ q, ap (λ (a : ℕ × List ℕ). a.1) e ∙ ap (λ (k : ℕ). cond (eqb k 0) answer o) q ∙ stored f h)

  make_says : (long fits symbols : Bool) → ◌≡◌ {A = ℕ × List ℕ} (r, o') (answered (refusal long fits symbols) answer o)
      → (long ≡ true → symbols ≡ true → answer ≡ answer') → (f : ℕ) → refusal long fits symbols ≡ f → (r ≡ f) × (o' ≡ pick (eqb f 0) answer' o)
  make_says long fits symbols e h f q =
      answered_says (refusal long fits symbols) f e q (λ z. let t = none_refused long fits symbols (q ∙ z) in h t.0 t.1)

-- data of no symbol, or of more than 1,007
above : (n m : ℕ) (t : Bool) → leb n m ≡ t → not t ≡ ltb m n
above n m true e = sym (le-ltb m n (leb-true n m e))
above n m false e = sym (lt-ltb m n (leb-false n m e))

outside : (n m : ℕ) → not (within 1 m n) ≡ (eqb n 0 || ltb m n)
unfolding within
outside zero m = refl
outside (suc n) m = rw (le-leb 1 (suc n) (omega arith), eqb-suc-zero n) (above (suc n) m (leb (suc n) m) refl)

pub outer_make_says : (d o o' : List ℕ) (r : ℕ) → ◌≡◌ {A = ℕ × List ℕ} (r, o') (outer_encoded d o) → OuterMakeSays d o o' r
unfolding outer_encoded
outer_make_says d o o' r e =
    let long = within 1 1007 (length d) in
    let fits = eqb (length o) 16 in
    make_says (outer_parity d) (outer_checks d) o o' r long fits (all_below 1024 d) e (λ l s. sym (parity_agrees d s)) _
    (refusal_says long fits (all_below 1024 d)
    ∙ ap₂ (λ (t s : Bool). first_of (when t 6) (first_of (when (not fits) 3) (when (not s) 7))) (outside (length d) 1007) (sym (symbols_agree d)))

first_of_zero : (n : ℕ) → first_of n 0 ≡ n
first_of_zero zero = refl
first_of_zero (suc n) = refl

-- the parity bits of 244 bytes, in bytes
bytes_says : (d : List ℕ) → length d ≡ 244 → Bits.bytes_of 11 (at (inner_parity (Bits.bits_of d))) ≡ bytes_of (inner_checks (bits_of d))
bytes_says d long =
    let bits = Bits.bits_of d in
    sym (ap bytes_of (ap inner_checks (bits_agree d) ∙ InnerAgrees.parity_agrees bits (bits_length d ∙ omega arith) (bits_below d)) ∙ bytes_agree 11 (inner_parity bits) (inner_length bits))

pub inner_make_says : (d o o' : List ℕ) (r : ℕ) → ◌≡◌ {A = ℕ × List ℕ} (r, o') (inner_encoded d o) → InnerMakeSays d o o' r
unfolding inner_encoded
inner_make_says d o o' r e =
    let long = eqb (length d) 244 in
    let fits = eqb (length o) 11 in
    make_says _ (bytes_of (inner_checks (bits_of d))) o o' r long fits true e (λ l s. bytes_says d (eqb-true (length d) 244 l)) _
    (refusal_says long fits true ∙ ap (first_of (when (not long) 6)) (first_of_zero (when (not fits) 3)))

-- ---- corrections

pub near_says : (w c : List ℕ) → length c ≡ length w → Places.apart w c ≤ 8 → is_near w c ≡ true
near_says w c e h = rw (eq-eqb (length w) (length c) (sym e), apart_agrees w c (sym e)) (le-leb (Places.apart w c) 8 h)

pub far_says : (w c : List ℕ) → (length c ≡ length w → 8 < Places.apart w c) → is_near w c ≡ false
far_says w c h = go (eqb (length w) (length c)) refl
  where
    go : (b : Bool) → eqb (length w) (length c) ≡ b → (b && leb (apart w c) 8) ≡ false
    go false e = refl
    go true e = let l : length w ≡ length c = eqb-true (length w) (length c) e in rw (apart_agrees w c l) (lt-leb (Places.apart w c) 8 (h (sym l)))

-- and back
pub near_is : (w c : List ℕ) → is_near w c ≡ true → (length c ≡ length w) × (Places.apart w c ≤ 8)
near_is w c h =
    let t = (and-eq-true_iff (eqb (length w) (length c)) (leb (apart w c) 8)).0 h in
    let l : length w ≡ length c = eqb-true (length w) (length c) t.0 in
    (sym l, rw (apart_agrees w c l) at (leb-true (apart w c) 8 t.1))

pub far_is : (w c : List ℕ) → is_near w c ≡ false → length c ≡ length w → 8 < Places.apart w c
far_is w c h e = leb-false (Places.apart w c) 8 (rw (eq-eqb (length w) (length c) (sym e), apart_agrees w c (sym e)) at h)

-- answers of any form, their number, and how many places they changed; a word w and the buffer o; our test of code words and the document's; what is stored
-- of a code word, by ours and by the document
module _ {A : Type 0} (refused : ℕ → A) (changes : List ℕ → A) (number changed : A → ℕ) (alone : (n : ℕ) → (number (refused n) ≡ n) × (changed (refused n) ≡ 0))
    (is_code isCode' : List ℕ → Bool) (agree : (c : List ℕ) → isCode' c ≡ is_code c) (q : ℕ) (content out : List ℕ → List ℕ) (w o : List ℕ) where
  -- what holds of words of the right length
  abbrev Ready : Type 0
  Ready =
      Decodes is_code q 8 (length w)
      × ((c : List ℕ) → length c ≡ length w → (number (changes c) ≡ 0) × (changed (changes c) ≡ Places.apart w c) × (content c ≡ out c))

  nearest_says : Ready → (a : Option (List ℕ)) → nearest is_code q 8 w ≡ a →
      (let r = found refused changes content o a in Nearest isCode' w o r.1 out (number r.0) (changed r.0))
  unfolding found
  nearest_says (D, says) none e = inr (λ c h. far_says w c (λ l. D.none_means_none w c refl e l (sym (agree c) ∙ h)), (alone 5).0, (alone 5).1, refl)
  nearest_says (D, says) (some c) e =
      let s = D.sound w c refl e in
      let t = says c s.0 in
      inl (c, agree c ∙ s.1, near_says w c s.0 s.2, t.0, t.1 ∙ sym (apart_agrees w c (sym s.0)), t.2)

  mended_says : (long fits symbols : Bool) → (long ≡ true → Ready) →
      (let f = refusal long fits symbols in
      let r = corrected refused f o (found refused changes content o (nearest is_code q 8 w)) in
      MendedWith f isCode' w o r.1 out (number r.0) (changed r.0))
  unfolding refusal corrected
  mended_says true true true h = nearest_says (h refl) (nearest is_code q 8 w) refl
  mended_says true true false h = ((alone 7).0, (alone 7).1, refl)
  mended_says true false symbols h = ((alone 3).0, (alone 3).1, refl)
  mended_says false fits symbols h = ((alone 6).0, (alone 6).1, refl)

  mend_says : (long fits symbols : Bool) → (long ≡ true → Ready) → (f : ℕ) → refusal long fits symbols ≡ f → (o' : List ℕ) (r : A) →
      ◌≡◌ {A = A × List ℕ} (r, o') (corrected refused (refusal long fits symbols) o (found refused changes content o (nearest is_code q 8 w))) → MendedWith f isCode' w o o' out (number r) (changed r)
  mend_says long fits symbols h f same o' r e =
      subst (λ (f : ℕ). MendedWith f isCode' w o o' out (number r) (changed r)) same
      (subst (λ (a : A × List ℕ). MendedWith (refusal long fits symbols) isCode' w o a.1 out (number a.0) (changed a.0)) (sym e) (mended_says long fits symbols h))

pub outer_mend_says : (w o o' : List ℕ) (r : Correction) → ◌≡◌ {A = Correction × List ℕ} (r, o') (outer_corrected w o) → OuterMendSays w o o' (refusal_of r) (changed_of r)
unfolding outer_corrected within
outer_mend_says w o o' r e =
    let fits = eqb (length o) (length w) in
    let symbols = all_below 1024 w in
    mend_says outer.Refused (λ c. outer.Corrected (Places.apart w c)) refusal_of changed_of (λ n. (refl, refl)) Outer.is_outer is_outer outer_agrees 1024
    (λ c. c) (λ c. c) w o (outer_long w) fits symbols
    (λ l. (codes.outer_nearest (length w) (leb-true (length w) 1023 ((and-eq-true_iff (leb 17 (length w)) (leb (length w) 1023)).0 l).1), λ c same. (refl, refl, refl))) _
    (refusal_says (outer_long w) fits symbols ∙ ap (λ (s : Bool). first_of (when (not (outer_long w)) 6) (first_of (when (not fits) 3) (when (not s) 7))) (sym (symbols_agree w)))
    o' r e

-- what the document counts as changed are data places and parity places together
pub inner_mend_says : (w o o' : List ℕ) (r : InnerCorrection) → ◌≡◌ {A = InnerCorrection × List ℕ} (r, o') (inner_corrected w o) →
    InnerMendSays w o o' (inner_refusal_of r) (data_changed_of r + parity_changed_of r)
unfolding inner_corrected inner_changes
inner_mend_says w o o' r e =
    let long = eqb (length w) 255 in
    let fits = eqb (length o) 255 in
    let bits = Bits.bits_of w in
    subst (λ (b : List ℕ). MendedWith (first_of (when (not long) 6) (when (not fits) 3)) is_inner b o o' bytes_of (inner_refusal_of r) (data_changed_of r + parity_changed_of r)) (sym (bits_agree w))
    (mend_says inner.Refused (inner_changes bits) inner_refusal_of (λ a. data_changed_of a + parity_changed_of a) (λ n. (refl, refl)) Inner.is_inner is_inner InnerAgrees.inner_agrees 2
    (λ c. Bits.bytes_of 255 (at c)) bytes_of bits o long fits true
    (λ l. let k : length bits ≡ 2040 = bits_length w ∙ omega (arith, eqb-true (length w) 255 l) in
    (rw k codes.inner_nearest, λ c same. (refl, changes_sum bits c k, sym (bytes_agree 255 c (same ∙ k))))) _
    (refusal_says long fits true ∙ ap (first_of (when (not long) 6)) (first_of_zero (when (not fits) 3))) o' r e)
