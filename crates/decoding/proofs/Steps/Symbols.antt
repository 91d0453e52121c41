-- The test of the symbols of a word, and copies. Assumes nothing.
use mathlib.Core.Path.{◌≡◌, sym, ap, ◌∙◌}
use mathlib.Core.Bool.{Bool}
use mathlib.Core.List.{List, [], ◌∷◌, ◌++◌}
use Prim.Native.Nat.{ℕ, ◌+◌, ◌≤◌, ◌<◌}
use native.Mathlib.Numerals.{add-one}
use native.Mathlib.Omega.{arith}
use borrow.Author.Tests.{lt-ltb, ltb-true, eq-eqb, ne_eqb}
use lib.Dec.{ltb}
use Rattle.std.specs.Prelude.{◌↔◌, IsTrue, EachIndex, slice_index}
use lib.ListN.{length, get_or, set, take}
use lib.Seq.{take-suc, take-suc-set, take_all}
use Rattle.fields.specs.Places.{at, every, all_below}
use Rattle.fields.specs.Steps.Buffers.{copied}
use Rattle.fields.proofs.Places.Tests.{tests_agree, every_at, every_true}

-- a test that passes just where each symbol is below q
pub below_each : (q : ℕ) (w : List ℕ) (r : Bool) → (IsTrue r ↔ EachIndex w (λ k. slice_index w k < q)) → r ≡ all_below q w
unfolding all_below
below_each q w r h =
    tests_agree r (every (length w) (λ i. ltb (at w i) q)) (λ t. every_true _ _ (λ i l. lt-ltb (at w i) q (h.0 t i l)))
    (λ t. h.1 (λ i l. ltb-true (at w i) q (every_at _ _ t i l)))

-- ---- copies

module _ {A : Type 0} (w buffer : List A) where
  pub copied_not : (length buffer ≡ length w → ⊥) → buffer ≡ copied w buffer
  unfolding copied
  copied_not n = rw (ne_eqb (length buffer) (length w) n)

  pub copied_same : length buffer ≡ length w → copied w buffer ≡ w
  unfolding copied
  copied_same e = rw (eq-eqb (length buffer) (length w) e)

-- a turn of the loop that copies, and its end: the first i elements are those of the word
module _ {A : Type 0} (w : List A) (i : ℕ) (out : List A) (e : length out ≡ length w) (h : take i out ≡ take i w) where
  pub copied_next : (v : A) → i < length w → v ≡ get_or w i v → take (i + 1) (set out i v) ≡ take (i + 1) w
  copied_next v l q =
      let to_length : i < length out = omega (arith, e) in
      rw (add-one i) (take-suc-set out i v to_length ∙ ap (λ (xs : List A). xs ++ (v ∷ [])) h ∙ ap (λ (x : A). take i w ++ (x ∷ [])) q ∙ sym (take-suc w i v l))

  pub copied_end : (buffer : List A) → length buffer ≡ length w → length w ≤ i → out ≡ copied w buffer
  copied_end buffer n l = sym (take_all i out (omega (arith, e, l))) ∙ h ∙ take_all i w l ∙ sym (copied_same w buffer n)
