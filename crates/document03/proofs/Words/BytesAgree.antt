-- Document 03's bits of bytes and the numbers that its groups of bits make agree with ours. Assumes nothing.
use mathlib.Core.Path.{◌≡◌, refl, ap, ap₂, ◌∙◌}
use mathlib.Core.List.{List, [], ◌∷◌, ◌++◌}
use Prim.Native.Nat.{ℕ, zero, suc, ◌+◌, ◌*◌, ◌/◌, ◌%◌, ◌≤◌, ◌<◌}
use native.Mathlib.Nat.{mul-suc}
use native.Mathlib.Omega.{arith}
use lib.ListN.{length, take, drop, length-drop}
use lib.Seq.{get_or-take, get_or-drop, length-take-le}
use Rattle.fields.specs.Lists.{tabulate}
use Rattle.fields.specs.Places.{at}
use Rattle.fields.proofs.Lists.{tabulate_append, tabulate_is, tabulate_same}
use Rattle.words.specs.Bits.{bit_of, number_of, bit_at}
use Rattle.words.specs.Bits as Bits
use Rattle.words.proofs.Bits.Numbers.{number_of_same}
use Rattle.document03.proofs.Words.Statements.{bits_from}
use Rattle.document03.proofs.Words.Says.{bits_of, number_from, groups_from, bytes_of}
use Rattle.document03.proofs.Words.WordsAgree.{runs}
use Rattle.document03.proofs.Words.BitRegister.{bits_length, bits_at}

-- the bits of the first byte, and those of the others
module _ (b : ℕ) (bs : List ℕ) (i : ℕ) where
  bit_first : i < 8 → bit_of 8 b i ≡ bit_at (b ∷ bs) i
  unfolding bit_at
  bit_first h =
      let q : i / 8 ≡ 0 = omega arith in
      let r : i % 8 ≡ i = omega arith in
      rw (q, r)

  bit_other : bit_at bs i ≡ bit_at (b ∷ bs) (8 + i)
  unfolding bit_at
  bit_other =
      let q : (8 + i) / 8 ≡ suc (i / 8) = omega arith in
      let r : (8 + i) % 8 ≡ i % 8 = omega arith in
      rw (q, r)

pub bits_agree : (bytes : List ℕ) → bits_of bytes ≡ Bits.bits_of bytes
unfolding Bits.bits_of tabulate
bits_agree [] = refl
bits_agree (b ∷ bs) =
    let f = bit_at (b ∷ bs) in
    let n = 8 * length bs in
    let e : 8 + n ≡ 8 * suc (length bs) = omega arith in
    ap₂ ◌++◌ (tabulate_is 8 f (bits_from 8 b) 0 (bits_length 8 b) (λ i l. bits_at 8 b i l ∙ bit_first b bs i l)) (bits_agree bs)
    ∙ tabulate_append 8 n f (bit_at bs) (bit_other b bs) ∙ ap (λ (k : ℕ). tabulate k f) e

-- the number that bits make, and those of k groups of n bits
number_agrees : (bs : List ℕ) → number_from 0 bs ≡ number_of (length bs) (at bs)
unfolding number_of
number_agrees bs = runs (λ v b. 2 * v + b) number_from (λ v. refl) (λ v b bs. refl) (λ i. number_of i (at bs)) bs (λ i l. refl)

pub groups_agree : (n k : ℕ) (bs : List ℕ) → n * k ≤ length bs → groups_from k n bs ≡ tabulate k (λ i. number_of n (λ j. at bs (n * i + j)))
unfolding tabulate
groups_agree n zero bs h = refl
groups_agree n (suc k) bs h =
    let l : n + n * k ≤ length bs = omega (arith, mul-suc n k) in
    ap₂ ◌∷◌
    (number_agrees (take n bs) ∙ ap (λ (m : ℕ). number_of m (at (take n bs))) (length-take-le n bs (omega arith))
    ∙ number_of_same n _ _ (λ j g. get_or-take n bs j 0 g ∙ ap (at bs) (omega arith)))
    (groups_agree n k (drop n bs) (omega (arith, length-drop n bs))
    ∙ tabulate_same k _ _ (λ i m. number_of_same n _ _ (λ j g. get_or-drop n bs (n * i + j) 0 ∙ ap (at bs) (omega (arith, mul-suc n i)))))

pub bytes_agree : (n : ℕ) (bs : List ℕ) → length bs ≡ 8 * n → bytes_of bs ≡ Bits.bytes_of n (at bs)
unfolding Bits.bytes_of
bytes_agree n bs e = let q : length bs / 8 ≡ n = omega arith in ap (λ (k : ℕ). groups_from k 8 bs) q ∙ groups_agree 8 n bs (omega arith)
