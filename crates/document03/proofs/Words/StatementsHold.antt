-- Document 03's statement on words, from ours. Assumes nothing.
use mathlib.Core.Path.{◌≡◌, refl, sym, ap, ◌∙◌}
use mathlib.Core.Bool.{true, false}
use mathlib.Core.List.{List, ◌++◌}
use Prim.Native.Nat.{ℕ, ◌+◌, ◌*◌, ◌≤◌}
use native.Mathlib.Decide.{dec_le}
use native.Mathlib.Omega.{arith}
use borrow.Author.Tests.{ne_eqb, leb-true, ltb-true}
use lib.ListN.{length}
use Rattle.fields.specs.Places as Places
use Rattle.words.specs.OuterCode as Outer
use Rattle.words.proofs.Codes.Proved as Proved
use Rattle.document03.proofs.Fields.{powers_from, powers_b}
use Rattle.document03.proofs.Words.Statements.{Codes, vanishes_from, factors, same, apart}
use Rattle.document03.proofs.Words.WordsAgree.{same_refl, apart_agrees}
use Rattle.document03.proofs.Words.OuterAgrees.{symbols_agree, outer_agrees, parity_agrees}
use Rattle.document03.proofs.Words.InnerAgrees.{value_b_agrees, inner_length, inner_agrees}

factors_vanish : vanishes_from 1 factors ≡ true
unfolding powers_b powers_from
factors_vanish = refl

-- words of one length that are equal as soon as they differ in at most 16 places differ in 17 at least, if they are not the same
far : (xs ys : List ℕ) → length xs ≡ length ys → (Places.apart xs ys ≤ 16 → xs ≡ ys) → same xs ys ≡ false → 17 ≤ apart xs ys
far xs ys e close other = go (dec_le (apart xs ys) 16)
  where
    go : Dec (apart xs ys ≤ 16) → 17 ≤ apart xs ys
    go (yes h) =
        let t : true ≡ false = sym (same_refl xs) ∙ ap (same xs) (close (rw (apart_agrees xs ys e) at h)) ∙ other in
        let z : ◌≡◌ {A = ℕ} 0 1 = cc in
        absurd (omega arith)
    go (no h) = omega arith

pub codes : Codes
codes =
    record {
      factors_vanish = factors_vanish;
      none_lower = λ e v he hv hl. ne_eqb _ 0 (λ z. let lt = leb-true e 7 he in
          let r : v ≡ 0 = (Proved.codes).none_lower e v (omega arith) (ltb-true v 2048 hl) (sym (value_b_agrees (2 * e + 1) 12 v (omega arith)) ∙ z) in
          omega (arith, leb-true 1 v hv));
      outer_made = λ ss h l. let s = sym (symbols_agree ss) ∙ h in
          outer_agrees _ ∙ ap (λ (q : List ℕ). Outer.is_outer (ss ++ q)) (parity_agrees ss s) ∙ (Proved.codes).outer_made ss s;
      outer_far = λ xs ys hx hy e l. far xs ys e ((Proved.codes).outer_far xs ys (sym (outer_agrees xs) ∙ hx) (sym (outer_agrees ys) ∙ hy) e (leb-true _ 1023 l));
      inner_far = λ xs ys hx hy. far xs ys (inner_length xs hx ∙ sym (inner_length ys hy)) ((Proved.codes).inner_far xs ys (sym (inner_agrees xs) ∙ hx) (sym (inner_agrees ys) ∙ hy));
    }
