-- Document 03's inner code agrees with ours: its values of binary polynomials, its divisor, its parity bits and its code words.
-- Assumes nothing.
use mathlib.Core.Path.{◌≡◌, refl, sym, ap, ap₂, ◌∙◌}
use mathlib.Core.Bool.{true, ◌&&◌, and-eq-true_iff}
use mathlib.Core.List.{List, ◌++◌}
use Prim.Native.Nat.{ℕ, zero, suc, ◌+◌, ◌/◌, ◌%◌, ◌<◌}
use native.Mathlib.Omega.{arith}
use borrow.Author.Tests.{eq-eqb, eqb-true}
use lib.Dec.{eqb, lit<}
use lib.ListN.{length, take, drop, replicate, take-append-drop}
use lib.Seq.{length-take-le}
use Rattle.fields.specs.Elements.{scale}
use Rattle.fields.specs.Elements as E
use Rattle.fields.specs.Lists.{tabulate}
use Rattle.fields.specs.Places.{at, all_below, horner, value}
use Rattle.fields.proofs.Instances.{field_b}
use Rattle.fields.proofs.Places.Tests.{tests_agree, below_at, below_all, below_take}
use Rattle.words.specs.Bits.{bit_of}
use Rattle.words.specs.InnerCode.{value_of, remainder, inner_remainder, inner_parity}
use Rattle.words.specs.InnerCode as Inner
use Rattle.words.proofs.Bits.Numbers.{bit_of_half, bit_of_last}
use Rattle.words.proofs.Codes.Horner.{scale_one, horner_same}
use Rattle.words.proofs.Codes.InnerWords.{inner_is}
use Rattle.words.proofs.Codes.InnerParity.{inner_made, inner_only}
use Rattle.document03.proofs.Fields.{times_b, pow_b, times_b_agrees, pow_b_agrees}
use Rattle.document03.proofs.Words.WordsAgree.{all_below_lem, same_refl, same_is, value_agrees}
use Rattle.document03.proofs.Words.Statements.{bits_from, divisor, bit_register, inner_checks, all_bits, same, is_inner, value_b}
use Rattle.document03.proofs.Words.BitRegister.{bits_length, bits_at, bit_register_agrees}

-- the value of a polynomial, from its bits
horner_bits : (f : ℕ → ℕ) (n v : ℕ) → horner f (bit_of n v) n ≡ value_of f 1 n v
unfolding horner value_of
horner_bits f zero v = refl
horner_bits f (suc n) v =
    ap₂ (λ (x y : ℕ). E.xor (f x) y) (horner_same f _ _ n (bit_of_half n v) ∙ horner_bits f n (v / 2)) (bit_of_last n v ∙ sym (scale_one (v % 2) (omega arith)))

bits_below : (n v i : ℕ) → at (bits_from n v) i < 2
bits_below zero v i = lit< tt
bits_below (suc n) v zero = omega arith
bits_below (suc n) v (suc i) = bits_below n v i

pub value_b_agrees : (i n v : ℕ) → i < 2047 → value_b (pow_b i) 0 (bits_from n v) ≡ Inner.value_b i n v
value_b_agrees i n v h =
    value_agrees 11 2053 field_b (lit< tt) times_b times_b_agrees (pow_b i) (value_b (pow_b i)) (λ v. refl) (λ v s ss. refl) (bits_from n v) (λ j. omega (arith, bits_below n v j))
    ∙ ap₂ (λ (x k : ℕ). value 11 2053 x (at (bits_from n v)) k) (pow_b_agrees i h) (bits_length n v)
    ∙ horner_same _ _ _ n (bits_at n v) ∙ horner_bits _ n v

divisor_agrees : divisor ≡ bits_from 89 Inner.divisor
unfolding Inner.divisor Inner.product_of Inner.factors value_of scale E.xor
divisor_agrees = refl

pub parity_agrees : (d : List ℕ) → length d ≡ 1952 → all_below 2 d ≡ true → inner_checks d ≡ inner_parity d
unfolding inner_parity inner_remainder
parity_agrees d long h =
    ap (λ (g : List ℕ). bit_register g (replicate 88 0) d) divisor_agrees ∙ bit_register_agrees 87 Inner.divisor d (below_at 2 d (lit< tt) h)
    ∙ ap (λ (k : ℕ). tabulate 88 (bit_of 88 (remainder 88 Inner.divisor (at d) (k + 88)))) long

pub inner_length : (w : List ℕ) → is_inner w ≡ true → length w ≡ 2040
inner_length w t = eqb-true (length w) 2040 ((and-eq-true_iff (eqb (length w) 2040) (all_bits w && same (inner_checks (take 1952 w)) (drop 1952 w))).0 t).0

-- a binary word of 2,040 places: its first 1,952 and the others
module _ (w : List ℕ) (long : length w ≡ 2040) (bits : all_below 2 w ≡ true) where
  abbrev d : List ℕ
  d = take 1952 w

  abbrev q : List ℕ
  q = drop 1952 w

  data_long : length d ≡ 1952
  data_long = length-take-le 1952 w (omega arith)

  data_bits : all_below 2 d ≡ true
  data_bits = below_take 2 1952 w bits

  same_inner : same (inner_checks d) q ≡ true → Inner.is_inner w ≡ true
  same_inner t =
      let e : d ++ inner_parity d ≡ w = ap (λ (r : List ℕ). d ++ r) (sym (parity_agrees d data_long data_bits) ∙ same_is (inner_checks d) q t) ∙ take-append-drop 1952 w in
      ap Inner.is_inner (sym e) ∙ inner_made d data_long data_bits

  inner_same : Inner.is_inner w ≡ true → same (inner_checks d) q ≡ true
  inner_same t =
      ap (λ (r : List ℕ). same r q) (parity_agrees d data_long data_bits ∙ sym (inner_only d q data_long (ap Inner.is_inner (take-append-drop 1952 w) ∙ t)))
      ∙ same_refl q

pub inner_agrees : (w : List ℕ) → is_inner w ≡ Inner.is_inner w
inner_agrees w =
    let checked = same (inner_checks (take 1952 w)) (drop 1952 w) in
    let bits : all_bits w ≡ all_below 2 w = all_below_lem 2 all_bits refl (λ s ss. refl) w in
    tests_agree (is_inner w) (Inner.is_inner w)
    (λ t. let b = (and-eq-true_iff (all_bits w) checked).0 ((and-eq-true_iff (eqb (length w) 2040) (all_bits w && checked)).0 t).1 in
    same_inner w (inner_length w t) (sym bits ∙ b.0) b.1)
    (λ t. let c = inner_is w t in
    let below : all_below 2 w ≡ true = below_all 2 w (λ i l. c.bits i) in
    (and-eq-true_iff (eqb (length w) 2040) (all_bits w && checked)).1
    (eq-eqb (length w) 2040 c.long, (and-eq-true_iff (all_bits w) checked).1 (bits ∙ below, inner_same w c.long below t)))
