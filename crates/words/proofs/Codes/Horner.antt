-- Laws of Horner's rule over words (`horner`), over the bits of a number (`value_of`), and of remainders (`remainder`), for every map that
-- respects sums. Assumes nothing.
use mathlib.Core.Path.{◌≡◌, refl, sym, ap, ap₂, ◌∙◌}
use mathlib.Core.List.{List, ◌++◌}
use Prim.Native.Nat.{ℕ, zero, suc, ◌+◌, ◌*◌, ◌/◌, ◌%◌, ◌^◌, ◌<◌}
use native.Mathlib.Nat.{add-suc, add-zero, le-add_right, le_refl}
use native.Mathlib.Omega.{arith}
use lib.Arith.{lt-one}
use lib.ListN.{length, get_or-append, get_or-eq_default}
use lib.Pow.{pow_pos}
use lib.Seq.{get_or-append-add}
use Rattle.fields.specs.Elements.{xor, scale, doubled}
use Rattle.fields.specs.Places.{at, horner}
use Rattle.fields.proofs.Xor.{xor_zero_l, xor_zero_r, xor_comm, xor_self, xor_assoc, xor_four, xor_half, xor_bit, xor_lt, additive_zero}
use Rattle.fields.proofs.Doubling.{two_le, bits_scale, doubled_lt}
use Rattle.words.specs.InnerCode.{value_of, remainder}

abbrev pub Additive : (ℕ → ℕ) → Type 0
Additive f = (x y : ℕ) → f (xor x y) ≡ xor (f x) (f y)

-- f taken n times
unfoldable pub iter : (ℕ → ℕ) → ℕ → ℕ → ℕ
iter f zero v = v
iter f (suc n) v = f (iter f n v)

pub scale_one : (t : ℕ) → t < 2 → scale t 1 ≡ t
unfolding scale
scale_one zero h = refl
scale_one (suc zero) h = refl
scale_one (suc (suc t)) h = absurd (omega arith)

pub scale_zero : (t : ℕ) → scale t 0 ≡ 0
unfolding scale
scale_zero zero = refl
scale_zero (suc t) = refl

pub horner_same : (f b c : ℕ → ℕ) (n : ℕ) → ((i : ℕ) → i < n → b i ≡ c i) → horner f b n ≡ horner f c n
unfolding horner
horner_same f b c zero h = refl
horner_same f b c (suc n) h = ap₂ (λ (x y : ℕ). xor (f x) y) (horner_same f b c n (λ i l. h i (omega arith))) (h n (le_refl (suc n)))

-- the remainder by a polynomial of degree m has a lower degree
pub remainder_lt : (m p : ℕ) → 0 < m → p / 2 ^ m ≡ 1 → (b : ℕ → ℕ) → ((i : ℕ) → b i < 2) → (n : ℕ) → remainder m p b n < 2 ^ m
unfolding horner
remainder_lt m p positive degree b bits zero = pow_pos m
remainder_lt m p positive degree b bits (suc n) =
    xor_lt m _ _ (doubled_lt m p degree _ (remainder_lt m p positive degree b bits n)) (omega (arith, bits n, two_le m positive))

pub iter_in : (f : ℕ → ℕ) (n v : ℕ) → iter f n (f v) ≡ f (iter f n v)
unfolding iter
iter_in f zero v = refl
iter_in f (suc n) v = ap f (iter_in f n v)

module _ (f : ℕ → ℕ) (f_sum : Additive f) where
  f_zero : f 0 ≡ 0
  f_zero = additive_zero f f_sum

  pub horner_sum : (b c : ℕ → ℕ) (n : ℕ) → horner f (λ i. xor (b i) (c i)) n ≡ xor (horner f b n) (horner f c n)
  unfolding horner
  horner_sum b c zero = sym (xor_self 0)
  horner_sum b c (suc n) = rw (horner_sum b c n, f_sum) (xor_four _ _ _ _)

  pub horner_zero : (b : ℕ → ℕ) → ((i : ℕ) → b i ≡ 0) → (n : ℕ) → horner f b n ≡ 0
  unfolding horner
  horner_zero b h zero = refl
  horner_zero b h (suc n) = rw (horner_zero b h n, h n, f_zero) (xor_self 0)

  pub iter_sum : (n : ℕ) → Additive (iter f n)
  unfolding iter
  iter_sum zero x y = refl
  iter_sum (suc n) x y = ap f (iter_sum n x y) ∙ f_sum _ _

  -- a word in two parts, of m and of n symbols
  pub horner_parts : (b : ℕ → ℕ) (m n : ℕ) → horner f b (m + n) ≡ xor (iter f n (horner f b m)) (horner f (λ i. b (m + i)) n)
  unfolding horner iter
  horner_parts b m zero = rw add-zero (sym (xor_zero_r _))
  horner_parts b m (suc n) = rw (add-suc, horner, horner_parts b m n, f_sum) (xor_assoc _ _ _)

  pub horner_front : (b : ℕ → ℕ) (n : ℕ) → horner f b (suc n) ≡ xor (iter f n (b 0)) (horner f (λ i. b (suc i)) n)
  unfolding horner iter
  horner_front b zero = rw f_zero (xor_comm 0 (b 0))
  horner_front b (suc n) = rw (horner_front b n, f_sum) (xor_assoc _ _ _)

  -- a word with n zeros after it
  pub horner_zeros : (c : List ℕ) (n : ℕ) → horner f (at c) (length c + n) ≡ iter f n (horner f (at c) (length c))
  horner_zeros c n =
      horner_parts (at c) (length c) n
      ∙ ap (xor (iter f n (horner f (at c) (length c)))) (horner_zero _ (λ i. get_or-eq_default c 0 {n = length c + i} (le-add_right (length c) i)) n)
      ∙ xor_zero_r _

  -- a word with n symbols after it: the sum of the word with n zeros after it and of the n symbols
  pub horner_append : (c d : List ℕ) (n : ℕ) → horner f (at (c ++ d)) (length c + n) ≡ xor (horner f (at c) (length c + n)) (horner f (at d) n)
  horner_append c d n =
      rw (horner_zeros c n, horner_parts (at (c ++ d)) (length c) n)
      (ap₂ (λ (x y : ℕ). xor (iter f n x) y) (horner_same f _ _ (length c) (get_or-append c d 0)) (horner_same f _ _ n (λ i l. get_or-append-add c d i 0)))

  module _ (y : ℕ) where
    pub value_of_sum : (n : ℕ) → Additive (value_of f y n)
    unfolding value_of
    value_of_sum zero r s = sym (xor_self 0)
    value_of_sum (suc n) r s = rw (xor_half, xor_bit, bits_scale, value_of_sum n, f_sum) (xor_four _ _ _ _)

    pub value_of_zero : (n : ℕ) → value_of f y n 0 ≡ 0
    value_of_zero n = additive_zero (value_of f y n) (value_of_sum n)

    -- times z
    value_of_double : (n r : ℕ) → value_of f y (suc n) (2 * r) ≡ f (value_of f y n r)
    unfolding value_of scale
    value_of_double n r =
        let h : 2 * r / 2 ≡ r = omega arith in
        let l : 2 * r % 2 ≡ 0 = omega arith in
        rw (h, l) (xor_zero_r _)

    -- more digits than the number has
    pub value_of_more : (n r : ℕ) → r < 2 ^ n → value_of f y (suc n) r ≡ value_of f y n r
    unfolding value_of scale
    value_of_more zero r h = rw (lt-one h) (rw f_zero (xor_self 0))
    value_of_more (suc n) r h = ap (λ (x : ℕ). xor (f x) (scale (r % 2) y)) (value_of_more n (r / 2) (omega arith))

    value_of_scale : (n t r : ℕ) → value_of f y n (scale t r) ≡ scale t (value_of f y n r)
    unfolding scale
    value_of_scale n zero r = value_of_zero n
    value_of_scale n (suc t) r = refl

    value_of_bit : (n t : ℕ) → t < 2 → value_of f y (suc n) t ≡ scale t y
    unfolding value_of
    value_of_bit n t h =
        let q : t / 2 ≡ 0 = omega arith in
        let e : t % 2 ≡ t = omega arith in
        rw (q, e, value_of_zero n, f_zero) (xor_zero_l _)

    -- where p vanishes, the remainder by p has the word's value
    module _ (m p : ℕ) (positive : 0 < m) (degree : p / 2 ^ m ≡ 1) (root : value_of f y (suc m) p ≡ 0) where
      value_of_doubled : (r : ℕ) → r < 2 ^ m → value_of f y (suc m) (doubled m p r) ≡ f (value_of f y (suc m) r)
      unfolding doubled
      value_of_doubled r h =
          rw (value_of_sum, value_of_scale, root, scale_zero, xor_zero_l) (value_of_double m r ∙ ap f (sym (value_of_more m r h)))

      pub value_remainder : (b : ℕ → ℕ) → ((i : ℕ) → b i < 2) → (n : ℕ) → value_of f y (suc m) (remainder m p b n) ≡ horner f (λ i. scale (b i) y) n
      unfolding horner
      value_remainder b bits zero = value_of_zero (suc m)
      value_remainder b bits (suc n) =
          rw (value_of_sum, value_of_doubled (horner (doubled m p) b n) (remainder_lt m p positive degree b bits n), value_remainder b bits n, value_of_bit m (b n) (bits n))
