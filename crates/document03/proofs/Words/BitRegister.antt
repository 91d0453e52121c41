-- Document 03's register of bits holds the bits of a number: the remainder of the word that it took in, followed by as many zeros as the
-- divisor's degree says. Assumes nothing.
use mathlib.Core.Path.{◌≡◌, refl, sym, ap, ◌∙◌}
use mathlib.Core.List.{List}
use Prim.Native.Nat.{ℕ, zero, suc, ◌+◌, ◌-◌, ◌/◌, ◌%◌, ◌^◌, ◌<◌}
use native.Mathlib.Nat.{le_of_suc-le-suc, not-suc-le-zero}
use native.Mathlib.Omega.{arith}
use lib.Dec.{lit<}
use lib.ListN.{length, replicate, length-replicate}
use Rattle.fields.specs.Elements.{scale, doubled}
use Rattle.fields.specs.Elements as E
use Rattle.fields.specs.Lists.{tabulate}
use Rattle.fields.specs.Places.{at}
use Rattle.fields.proofs.Doubling.{scale_lt, doubled_sum}
use Rattle.fields.proofs.Lists.{tabulate_is, tabulate_lt}
use Rattle.fields.proofs.Places.Filling.{zeros_at}
use Rattle.words.specs.Bits.{bit_of}
use Rattle.words.specs.ReedSolomon.{shifted_in, divided}
use Rattle.words.specs.InnerCode.{remainder}
use Rattle.words.proofs.Bits.Numbers.{bit_of_lt}
use Rattle.words.proofs.Codes.Horner.{iter, horner_zeros}
use Rattle.words.proofs.Codes.BinaryRegister.{divided_bits}
use Rattle.words.proofs.Codes.Division.{divided_length}
use Rattle.document03.proofs.Fields.{xor}
use Rattle.document03.proofs.Words.Statements.{bits_from, bit_scaled, bit_in, bit_register}
use Rattle.document03.proofs.Words.WordsAgree.{runs, sum_agrees, register_is}

-- lists of bits
pub bits_length : (n v : ℕ) → length (bits_from n v) ≡ n
bits_length zero v = refl
bits_length (suc n) v = ap suc (bits_length n v)

pub bits_at : (n v i : ℕ) → i < n → at (bits_from n v) i ≡ bit_of n v i
unfolding bit_of
bits_at zero v i h = absurd (not-suc-le-zero h)
bits_at (suc n) v zero h = let e : n ≡ suc n - 1 = omega arith in ap (λ (k : ℕ). v / 2 ^ k % 2) e
bits_at (suc n) v (suc i) h =
    let e : n - suc i ≡ suc n - suc (suc i) = omega arith in
    bits_at n v i (le_of_suc-le-suc h) ∙ ap (λ (k : ℕ). v / 2 ^ k % 2) e

scaled_at : (t : ℕ) (bs : List ℕ) (i : ℕ) → at (bit_scaled t bs) i ≡ scale t (at bs i)
unfolding scale
scaled_at zero bs i = zeros_at (length bs) i
scaled_at (suc t) bs i = refl

scaled_length : (t : ℕ) (bs : List ℕ) → length (bit_scaled t bs) ≡ length bs
scaled_length zero bs = length-replicate (length bs) 0
scaled_length (suc t) bs = refl

-- a divisor p of degree n + 1
module _ (n p : ℕ) where
  abbrev divisor : List ℕ
  divisor = bits_from (suc (suc n)) p

  bit_in_agrees : (reg : List ℕ) (s : ℕ) → length reg ≡ suc n → ((i : ℕ) → at reg i < 2) → s < 2 → bit_in divisor reg s ≡ shifted_in scale (suc n) (at divisor) reg s
  unfolding shifted_in
  bit_in_agrees reg s long h hs =
      let f = xor (at reg 0) s in
      let g = bits_from (suc n) p in
      let first : f ≡ E.xor (at reg 0) s = sum_agrees 1 (lit< tt) _ s (h 0) hs in
      register_is n _ reg (bit_scaled f g) long (scaled_length f g ∙ bits_length (suc n) p)
      (λ i l. ap (xor (at reg (suc i))) (scaled_at f g i ∙ ap (λ (t : ℕ). scale t (at g i)) first)
      ∙ sum_agrees 1 (lit< tt) _ _ (h (suc i)) (scale_lt _ _ 2 (lit< tt) (rw (bits_at (suc n) p i l) (bit_of_lt (suc n) p i))))

  module _ (d : List ℕ) (d_lt : (i : ℕ) → at d i < 2) where
    abbrev register : ℕ → List ℕ
    register = divided scale (suc n) (at divisor) (at d)

    register_bits : (k : ℕ) → register k ≡ tabulate (suc n) (bit_of (suc n) (iter (doubled (suc n) p) (suc n) (remainder (suc n) p (at d) k)))
    register_bits = divided_bits n p (at divisor) (at d) (bits_at (suc n) p) d_lt

    register_lt : (k i : ℕ) → at (register k) i < 2
    register_lt k i = rw (register_bits k) (tabulate_lt 2 (suc n) _ (lit< tt) (bit_of_lt (suc n) _) i)

    empty : replicate (suc n) 0 ≡ register 0
    unfolding divided
    empty = tabulate_is (suc n) _ (replicate (suc n) 0) 0 (length-replicate (suc n) 0) (λ i l. zeros_at (suc n) i)

    pub bit_register_agrees : bit_register divisor (replicate (suc n) 0) d ≡ tabulate (suc n) (bit_of (suc n) (remainder (suc n) p (at d) (length d + suc n)))
    unfolding divided
    bit_register_agrees =
        ap (λ (reg : List ℕ). bit_register divisor reg d) empty
        ∙ runs (bit_in divisor) (bit_register divisor) (λ reg. refl) (λ reg s ss. refl) register d
        (λ i l. bit_in_agrees (register i) (at d i) (divided_length scale (suc n) (at divisor) (at d) i) (register_lt i) (d_lt i))
        ∙ register_bits (length d)
        ∙ ap (λ (r : ℕ). tabulate (suc n) (bit_of (suc n) r)) (sym (horner_zeros (doubled (suc n) p) (doubled_sum (suc n) p) d (suc n)))
