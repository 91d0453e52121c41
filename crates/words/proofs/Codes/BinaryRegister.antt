-- The register of a division of bits holds the bits of a number: the remainder of the bits that it took in, followed by as many zeros as the
-- divisor's degree says. Assumes nothing.
use mathlib.Core.Path.{◌≡◌, sym, ap, ap₂, ◌∙◌}
use mathlib.Core.List.{List}
use mathlib.Core.Logic.{◌⊎◌, inl, inr}
use Prim.Native.Nat.{ℕ, zero, suc, ◌*◌, ◌/◌, ◌%◌, ◌^◌, ◌≤◌, ◌<◌}
use native.Mathlib.Nat.{eq-or-lt_of_le, le_of_suc-le-suc, le_refl, mul-le-mul_right, pow-suc}
use native.Mathlib.Omega.{arith}
use lib.ListN.{get_or-eq_default}
use lib.Pow.{pow-lt}
use Rattle.fields.specs.Elements.{xor, scale, doubled}
use Rattle.fields.specs.Lists.{tabulate}
use Rattle.fields.specs.Places.{at, horner}
use Rattle.fields.proofs.Xor.{xor_zero_r, xor_comm, additive_zero}
use Rattle.fields.proofs.Doubling.{doubled_sum, doubled_below}
use Rattle.fields.proofs.Lists.{tabulate_length, tabulate_at, tabulate_same}
use Rattle.words.specs.Bits.{bit_of}
use Rattle.words.specs.ReedSolomon.{shifted_in, divided}
use Rattle.words.specs.InnerCode.{remainder}
use Rattle.words.proofs.Bits.Numbers.{bit_of_zero, bit_of_last}
use Rattle.words.proofs.Codes.Horner.{iter, iter_in, iter_sum}
use Rattle.words.proofs.Codes.ShiftedBits.{bit_of_sum, bit_of_scale, bit_of_twice, bit_of_top, bit_of_first, bit_of_other}

-- a divisor p of degree n + 1
module _ (n p : ℕ) where
  abbrev bit : ℕ → ℕ → ℕ
  bit = bit_of (suc n)

  abbrev bits : ℕ → List ℕ
  bits r = tabulate (suc n) (bit r)

  abbrev D : ℕ → ℕ
  D = doubled (suc n) p

  -- one step: the bit s is added to the first bit of r, and the sum is doubled
  module _ (r s : ℕ) (s-lt : s < 2) where
    abbrev sum : ℕ
    sum = xor r (s * 2 ^ n)

    sum_first : bit sum 0 ≡ xor (bit r 0) s
    sum_first = bit_of_sum (suc n) 0 r (s * 2 ^ n) ∙ ap (xor (bit r 0)) (bit_of_first n s s-lt)

    sum_other : (i : ℕ) → i < n → bit sum (suc i) ≡ bit r (suc i)
    sum_other i h = bit_of_sum (suc n) (suc i) r (s * 2 ^ n) ∙ ap (xor (bit r (suc i))) (bit_of_other n s i h) ∙ xor_zero_r _

    moved : (i : ℕ) → (i ≡ n) ⊎ (i < n) → bit (2 * sum) i ≡ at (bits r) (suc i)
    moved i (inl e) = rw e (bit_of_last n (2 * sum) ∙ omega arith ∙ sym (get_or-eq_default (bits r) 0 {n = suc n} (omega (arith, tabulate_length (suc n) (bit r)))))
    moved i (inr h) = bit_of_twice n sum i h ∙ sum_other i h ∙ sym (tabulate_at (suc n) (bit r) (suc i) 0 (omega arith))

    doubled_bit : (i : ℕ) → i < suc n → bit (D sum) i ≡ xor (at (bits r) (suc i)) (scale (xor (bit r 0) s) (bit p i))
    unfolding doubled
    doubled_bit i h =
        bit_of_sum (suc n) i (scale (2 * sum / 2 ^ suc n % 2) p) (2 * sum)
        ∙ ap₂ xor (bit_of_scale (suc n) i _ p ∙ ap (λ (t : ℕ). scale t (bit p i)) (bit_of_top n sum ∙ sum_first)) (moved i (eq-or-lt_of_le (le_of_suc-le-suc h)))
        ∙ xor_comm _ _

  -- the number in the register: the remainder so far, n + 1 times doubled
  abbrev shifted : ℕ → ℕ
  shifted = iter D (suc n)

  shifted_zero : shifted 0 ≡ 0
  shifted_zero = additive_zero shifted (iter_sum D (doubled_sum (suc n) p) (suc n))

  iter_bit : (s k : ℕ) → s < 2 → k ≤ n → iter D k s ≡ s * 2 ^ k
  unfolding iter
  iter_bit s zero h l = omega arith
  iter_bit s (suc k) h l =
      let b : s * 2 ^ k ≤ 1 * 2 ^ k = mul-le-mul_right (2 ^ k) (le_of_suc-le-suc h) in
      ap D (iter_bit s k h (omega arith)) ∙ doubled_below (suc n) p (s * 2 ^ k) (omega (arith, pow-lt {i = suc k} {j = suc n} (omega arith)))
      ∙ omega (arith, ap (λ (x : ℕ). s * x) (pow-suc 2 k))

  shifted_step : (r s : ℕ) → s < 2 → shifted (xor (D r) s) ≡ D (xor (shifted r) (s * 2 ^ n))
  unfolding iter
  shifted_step r s h =
      iter_sum D (doubled_sum (suc n) p) (suc n) (D r) s ∙ ap₂ xor (iter_in D (suc n) r) (ap D (iter_bit s n h (le_refl n)))
      ∙ sym (doubled_sum (suc n) p _ _)

  -- the bits d are divided by p, whose coefficients after the leading one are g 1, g 2, ..
  module _ (g d : ℕ → ℕ) (coefficients : (i : ℕ) → i < suc n → g (suc i) ≡ bit_of (suc n) p i) (d_lt : (i : ℕ) → d i < 2) where
    abbrev held : ℕ → ℕ
    held k = shifted (remainder (suc n) p d k)

    pub divided_bits : (k : ℕ) → divided scale (suc n) g d k ≡ tabulate (suc n) (bit_of (suc n) (held k))
    unfolding divided shifted_in horner
    divided_bits zero = tabulate_same (suc n) _ _ (λ i l. sym (ap (λ (r : ℕ). bit r i) shifted_zero ∙ bit_of_zero (suc n) i))
    divided_bits (suc k) =
        let r = held k in
        let before : divided scale (suc n) g d k ≡ bits r = divided_bits k in
        let first : at (divided scale (suc n) g d k) 0 ≡ bit r 0 = ap (λ (c : List ℕ). at c 0) before ∙ tabulate_at (suc n) (bit r) 0 0 (omega arith) in
        let next : held (suc k) ≡ D (xor r (d k * 2 ^ n)) = shifted_step (remainder (suc n) p d k) (d k) (d_lt k) in
        tabulate_same (suc n) _ _ (λ i l.
        ap₂ xor (ap (λ (c : List ℕ). at c (suc i)) before) (ap₂ scale (ap (λ (x : ℕ). xor x (d k)) first) (coefficients i l))
        ∙ sym (ap (λ (x : ℕ). bit x i) next ∙ doubled_bit r (d k) (d_lt k) i l))
