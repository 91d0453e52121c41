-- Lists in document 03's way: the bits of bytes, a choice by an order, zeros at the end, and lists that a count makes. Assumes nothing.
use mathlib.Core.Path.{◌≡◌, sym, ap, ap₂, ◌∙◌}
use mathlib.Core.List.{List, [], ◌∷◌, ◌++◌}
use Prim.Native.Nat.{ℕ, zero, suc, ◌+◌, ◌*◌, ◌≤◌, ◌<◌}
use native.Mathlib.Omega.{arith}
use borrow.Author.Tests.{lt-ltb, le-ltb}
use lib.Dec.{ltb}
use lib.ListN.{length}
use lib.Seq.{append_snoc}
use Rattle.fields.specs.Lists.{tabulate}
use Rattle.fields.specs.Places.{at}
use Rattle.fields.proofs.Lists.{tabulate_same}
use Rattle.words.specs.Bits.{bit_at}
use Rattle.words.proofs.Bits.Bytes.{bits_length, bits_at}
use Rattle.document03.proofs.Fields.{pick}
use Rattle.document03.proofs.Words.Says.{bits_of}
use Rattle.document03.proofs.Words.WordsAgree.{padded_at}
use Rattle.document03.proofs.Words.BytesAgree.{bits_agree}

-- the bits of bytes
pub bits_long : (bytes : List ℕ) → length (bits_of bytes) ≡ 8 * length bytes
bits_long bytes = ap length (bits_agree bytes) ∙ bits_length bytes

pub bit_at_lem : (bytes : List ℕ) (i : ℕ) → at (bits_of bytes) i ≡ bit_at bytes i
bit_at_lem bytes i = ap (λ (bs : List ℕ). at bs i) (bits_agree bytes) ∙ bits_at bytes i

-- a choice by an order
module _ {A : Type 0} (x y : A) (a b : ℕ) where
  pub pick_lt : a < b → pick (ltb a b) x y ≡ x
  pick_lt h = rw (lt-ltb a b h)

  pub pick_le : b ≤ a → pick (ltb a b) x y ≡ y
  pick_le h = rw (le-ltb a b h)

-- two zeros at the end change no place
pub filled_at : (xs : List ℕ) (i : ℕ) → at (xs ++ (0 ∷ (0 ∷ []))) i ≡ at xs i
filled_at xs i = ap (λ (ys : List ℕ). at ys i) (sym (append_snoc xs 0 (0 ∷ []))) ∙ padded_at (xs ++ (0 ∷ [])) i ∙ padded_at xs i

-- m entries, one after the other: g 0, g 1, .. where g is f below m
module _ {A : Type 0} (from : ℕ → ℕ → List A) (g f : ℕ → A) (m : ℕ) (stop : (k : ℕ) → from zero k ≡ [])
    (go : (n k : ℕ) → from (suc n) k ≡ g k ∷ from n (suc k)) (same : (k : ℕ) → k < m → g k ≡ f k) where
  from_agrees : (n k : ℕ) → k + n ≤ m → from n k ≡ tabulate n (λ j. f (k + j))
  unfolding tabulate
  from_agrees zero k h = stop k
  from_agrees (suc n) k h =
      go n k
      ∙ ap₂ {C = List A} (λ x r. x ∷ r) (same k (omega arith) ∙ ap f (omega arith))
      (from_agrees n (suc k) (omega arith) ∙ tabulate_same n _ _ (λ j l. ap f (omega arith)))

  pub all_agree : from m 0 ≡ tabulate m f
  all_agree = from_agrees m 0 (omega arith) ∙ tabulate_same m _ _ (λ j l. ap f (omega arith))
