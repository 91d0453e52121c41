-- The divisor's roots tell the inner code words: a binary word that is zero at a, a^3, .. a^15 is one. Assumes nothing.
use mathlib.Core.Path.{◌≡◌, refl, sym, ap, ap₂, ◌∙◌, subst}
use mathlib.Core.Bool.{true, not}
use mathlib.Core.List.{List}
use Prim.Native.Nat.{ℕ, zero, suc, ◌+◌, ◌*◌, ◌/◌, ◌%◌, ◌^◌, ◌≤◌, ◌<◌}
use native.Mathlib.Nat.{le_refl, pow-suc}
use native.Mathlib.Omega.{arith}
use borrow.Author.Tests.{eq-eqb, eqb-false, not-true}
use lib.Dec.{eqb, lit<}
use lib.ListN.{length}
use lib.Pow.{pow_pos}
use Rattle.fields.specs.Elements.{xor, exponent}
use Rattle.fields.specs.Places.{at, every, all_below, horner, value}
use Rattle.fields.proofs.Instances.{field_b}
use Rattle.fields.proofs.Places.Tests.{every_at, below_at}
use Rattle.decoding.proofs.Algebra.Field.{all_map, upto, upto_lt, upto_apart}
use Rattle.decoding.proofs.Algebra.Locators.{vanishes}
use Rattle.decoding.proofs.Algebra.Elements.{ops, laws}
use Rattle.decoding.proofs.Algebra.Values.{value_abstract}
use Rattle.words.specs.Bits.{bit_of}
use Rattle.words.specs.InnerCode.{value_of, power_b, divisor, remainder, is_inner}
use Rattle.words.proofs.Bits.Numbers.{bit_of_lt, bit_of_zero, bit_of_half, bit_of_last, number_of_same, number_of_bits_lem}
use Rattle.words.proofs.Codes.Horner.{scale_one, horner_same, value_of_more}
use Rattle.words.proofs.Codes.LeastPolynomials.{divisor_degree, divisor_vanishes, times_power_sum}
use Rattle.words.proofs.Codes.InnerWords.{remainder_value, Root, root_twice}
use Rattle.words.proofs.Codes.InnerParity.{inner_remainder_lt}

-- a number as a polynomial, and as the word of its bits
pub value_of_bits : (f : ℕ → ℕ) (n r : ℕ) → value_of f 1 n r ≡ horner f (bit_of n r) n
unfolding value_of horner
value_of_bits f zero r = refl
value_of_bits f (suc n) r =
    ap₂ (λ (x y : ℕ). xor (f x) y) (value_of_bits f n (r / 2) ∙ horner_same f _ _ n (λ k l. sym (bit_of_half n r k l)))
    (scale_one (r % 2) (omega arith) ∙ sym (bit_of_last n r))

-- at a, a^3, .. a^15 the 88 bits of a binary word's remainder have the word's values
pub remainder_bits : (b : ℕ → ℕ) → ((i : ℕ) → b i < 2) → (n j : ℕ) → j < 8 →
    value 11 2053 (power_b (2 * j + 1)) (bit_of 88 (remainder 88 divisor b n)) 88 ≡ value 11 2053 (power_b (2 * j + 1)) b n
remainder_bits b bits n j h =
    let i = 2 * j + 1 in
    let r = remainder 88 divisor b n in
    sym (value_of_bits _ 88 r) ∙ sym (value_of_more _ (times_power_sum i) 1 88 r (inner_remainder_lt b bits n))
    ∙ remainder_value i 88 divisor (lit< tt) divisor_degree (divisor_vanishes j h) b bits n

-- the exponents (2 j + 1) 2^i of 88 roots, counted modulo 2,047; they are distinct
conjugate : ℕ → ℕ
conjugate k = (2 * (k % 8) + 1) * 2 ^ (k / 8) % 2047

conjugates_differ : every 88 (λ l. every l (λ k. not (eqb (conjugate k) (conjugate l)))) ≡ true
unfolding every conjugate
conjugates_differ = refl

abbrev root : ℕ → ℕ
root k = power_b (conjugate k)

conjugate_lt : (k : ℕ) → conjugate k < 2047
unfolding conjugate
conjugate_lt k = omega arith

roots_differ : (k l : ℕ) → k < l → l < 88 → ¬ (root k ≡ root l)
roots_differ k l h b e =
    let differ = every_at l (λ k. not (eqb (conjugate k) (conjugate l))) (every_at 88 (λ l. every l (λ k. not (eqb (conjugate k) (conjugate l)))) conjugates_differ l b) k h in
    eqb-false (conjugate k) (conjugate l) (not-true _ differ) (sym (exponent_of k) ∙ ap (exponent 11 2053) e ∙ exponent_of l)
  where
    exponent_of : (k : ℕ) → exponent 11 2053 (root k) ≡ conjugate k
    exponent_of k = field_b.exponent_power (conjugate k) (conjugate_lt k)

many : 88 ≤ length (upto 88)
unfolding upto
many = le_refl 88

-- 88 bits with these roots are zero, and so is their number
module _ (r : ℕ) (small : r < 2 ^ 88) (odd : (j : ℕ) → j < 8 → Root (bit_of 88 r) 88 (2 * j + 1)) where
  root_power : (e i : ℕ) → Root (bit_of 88 r) 88 e → Root (bit_of 88 r) 88 (e * 2 ^ i)
  root_power e zero z = let q : e * 2 ^ 0 ≡ e = omega arith in rw q z
  root_power e (suc i) z =
      let q : e * 2 ^ i + e * 2 ^ i ≡ e * 2 ^ suc i = rw (pow-suc 2 i) (omega arith) in
      subst (Root (bit_of 88 r) 88) q (root_twice (bit_of 88 r) (bit_of_lt 88 r) 88 (e * 2 ^ i) (root_power e i z))

  root_conjugate : (k : ℕ) → Root (bit_of 88 r) 88 (conjugate k)
  unfolding conjugate
  root_conjugate k =
      let e = (2 * (k % 8) + 1) * 2 ^ (k / 8) in
      ap (λ (x : ℕ). value 11 2053 x (bit_of 88 r) 88) (field_b.power_mod e) ∙ root_power (2 * (k % 8) + 1) (k / 8) (odd (k % 8) (omega arith))

  bit_lt : (k : ℕ) → bit_of 88 r k < 2 ^ 11
  bit_lt k = omega (arith, bit_of_lt 88 r k)

  bits_zero : (k : ℕ) → k < 88 → bit_of 88 r k ≡ 0
  bits_zero =
      vanishes (ops 11 2053) (laws 11 2053 field_b) root (λ k. field_b.power_lt (conjugate k)) 88 (bit_of 88 r) bit_lt (upto 88) many (upto_apart root 88 roots_differ)
      (all_map (λ k l. sym (value_abstract 11 2053 field_b (root k) (field_b.power_lt (conjugate k)) (bit_of 88 r) bit_lt 88) ∙ root_conjugate k) (upto 88) (upto_lt 88))

  number_zero : r ≡ 0
  number_zero = sym (number_of_bits_lem 88 r small) ∙ number_of_same 88 (bit_of 88 r) (bit_of 88 0) (λ k l. bits_zero k l ∙ sym (bit_of_zero 88 k)) ∙ number_of_bits_lem 88 0 (pow_pos 88)

pub inner_code : (w : List ℕ) → length w ≡ 2040 → all_below 2 w ≡ true → ((j : ℕ) → j < 8 → Root (at w) 2040 (2 * j + 1)) → is_inner w ≡ true
unfolding is_inner
inner_code w long below odd =
    let bits : (i : ℕ) → at w i < 2 = below_at 2 w (lit< tt) below in
    let divides = number_zero (remainder 88 divisor (at w) 2040) (inner_remainder_lt (at w) bits 2040) (λ j h. remainder_bits (at w) bits 2040 j h ∙ odd j h) in
    rw (eq-eqb (length w) 2040 long, below, divides)
