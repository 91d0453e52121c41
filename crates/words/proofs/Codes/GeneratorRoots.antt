-- The generator of a Reed-Solomon code over any binary field: its degree, elements, the leading coefficient 1, and zero at the roots. Assumes nothing.
use mathlib.Core.Path.{◌≡◌, refl, sym, ap, ap₂, ◌∙◌}
use mathlib.Core.List.{List, ◌∷◌}
use Prim.Native.Nat.{ℕ, zero, suc, ◌+◌, ◌^◌, ◌<◌}
use native.Mathlib.Decide.{ℕ_discrete}
use native.Mathlib.Nat.{not-suc-le-zero}
use native.Mathlib.Omega.{arith}
use lib.ListN.{length, get_or-eq_default}
use lib.Pow.{pow_pos}
use Rattle.fields.specs.Elements.{xor, times, power}
use Rattle.fields.specs.Field.{Field}
use Rattle.fields.specs.Lists.{tabulate}
use Rattle.fields.specs.Places.{at, horner, value}
use Rattle.fields.proofs.Doubling.{two_le}
use Rattle.fields.proofs.Lists.{tabulate_at, tabulate_length, tabulate_lt}
use Rattle.fields.proofs.Xor.{xor_self, xor_zero_l, xor_zero_r, additive_zero}
use Rattle.decoding.proofs.Algebra.Values.{value_lt}
use Rattle.words.specs.ReedSolomon.{with_root, generator_of}
use Rattle.words.proofs.Codes.Horner.{Additive, iter, iter_sum, horner_same, horner_sum, horner_front}
use Rattle.words.proofs.Codes.Division.{value_times}

module _ (m p : ℕ) (F : Field m p) where
  -- x + r times a polynomial of n + 1 coefficients, at x: x times its value, and r times its value
  module _ (g : List ℕ) (n : ℕ) (long : length g ≡ suc n) (elements : (i : ℕ) → at g i < 2 ^ m) (x r : ℕ) (hx : x < 2 ^ m) (hr : r < 2 ^ m) where
    abbrev f : ℕ → ℕ
    f v = times m p v x

    f_sum : Additive f
    f_sum u v = F.sum_times u v x

    moved_lt : (i : ℕ) → at (0 ∷ g) i < 2 ^ m
    moved_lt zero = pow_pos m
    moved_lt (suc i) = elements i

    moved_value : horner f (at (0 ∷ g)) (suc (suc n)) ≡ horner f (at g) (suc n)
    moved_value =
        horner_front f f_sum (at (0 ∷ g)) (suc n)
        ∙ ap (λ (v : ℕ). xor v (horner f (at g) (suc n))) (additive_zero (iter f (suc n)) (iter_sum f f_sum (suc n))) ∙ xor_zero_l _

    raised_value : horner f (at g) (suc (suc n)) ≡ f (horner f (at g) (suc n))
    unfolding horner
    raised_value =
        let past : at g (suc n) ≡ 0 = get_or-eq_default g 0 {n = suc n} (omega arith) in
        ap (xor (f (horner f (at g) (suc n)))) past ∙ xor_zero_r _

    with_root_value : value m p x (at (with_root m p r g)) (suc (suc n)) ≡ xor (times m p (value m p x (at g) (suc n)) x) (times m p r (value m p x (at g) (suc n)))
    unfolding with_root
    with_root_value =
        horner_same f (at (with_root m p r g)) (λ i. xor (at g i) (times m p r (at (0 ∷ g) i))) (suc (suc n)) (λ i l. tabulate_at (suc (length g)) _ i 0 (omega arith))
        ∙ horner_sum f f_sum (at g) (λ i. times m p r (at (0 ∷ g) i)) (suc (suc n))
        ∙ ap₂ xor raised_value (value_times m p F x hx r hr (at (0 ∷ g)) moved_lt (suc (suc n)) ∙ ap (times m p r) moved_value)

  -- ---- the generator: its degree, elements, the leading coefficient 1, and zero at the roots

  module _ (first : ℕ) where
    pub generator_length : (n : ℕ) → length (generator_of m p first n) ≡ suc n
    unfolding generator_of with_root
    generator_length zero = refl
    generator_length (suc n) = tabulate_length (suc (length (generator_of m p first n))) _ ∙ ap suc (generator_length n)

    pub generator_elements : (n i : ℕ) → at (generator_of m p first n) i < 2 ^ m
    unfolding generator_of with_root
    generator_elements zero zero = omega (arith, two_le m F.positive)
    generator_elements zero (suc i) = pow_pos m
    generator_elements (suc n) i =
        tabulate_lt (2 ^ m) _ _ (pow_pos m) (λ i. F.sum_lt _ _ (generator_elements n i) (F.times_lt _ _ (F.power_lt (first + n)))) i

    pub generator_monic : (n : ℕ) → at (generator_of m p first n) 0 ≡ 1
    unfolding generator_of with_root tabulate
    generator_monic zero = refl
    generator_monic (suc n) = ap₂ xor (generator_monic n) (F.times_zero (power m p (first + n))) ∙ xor_zero_r 1

    pub generator_vanishes : (n j : ℕ) → j < n → value m p (power m p (first + j)) (at (generator_of m p first n)) (suc n) ≡ 0
    unfolding generator_of
    generator_vanishes zero j l = absurd (not-suc-le-zero l)
    generator_vanishes (suc n) j l = go (ℕ_discrete j n) (generator_vanishes n j)
      where
        x : ℕ
        x = power m p (first + j)

        x_lt : power m p (first + j) < 2 ^ m
        x_lt = F.power_lt (first + j)

        r : ℕ
        r = power m p (first + n)

        v : ℕ
        v = value m p (power m p (first + j)) (at (generator_of m p first n)) (suc n)

        v_lt : v < 2 ^ m
        v_lt = value_lt m p F (power m p (first + j)) (at (generator_of m p first n)) (generator_elements n) (suc n)

        is : value m p x (at (generator_of m p first (suc n))) (suc (suc n)) ≡ xor (times m p v x) (times m p r v)
        is = with_root_value (generator_of m p first n) n (generator_length n) (generator_elements n) x r x_lt (F.power_lt (first + n))

        go : Dec (j ≡ n) → (j < n → v ≡ 0) → value m p x (at (generator_of m p first (suc n))) (suc (suc n)) ≡ 0
        go (yes e) before =
            is ∙ ap (λ (k : ℕ). xor (times m p v x) (times m p (power m p (first + k)) v)) (sym e)
            ∙ ap (λ (y : ℕ). xor y (times m p x v)) (F.times_comm v x v_lt x_lt) ∙ xor_self _
        go (no e) before =
            let z : v ≡ 0 = before (omega arith) in
            is ∙ ap₂ xor (F.times_comm v x v_lt x_lt ∙ ap (times m p x) z ∙ F.times_zero x) (ap (times m p r) z ∙ F.times_zero r) ∙ xor_self 0
