-- The register of a division by a polynomial g: maps that respect sums and products carry it over; where g vanishes, data followed by the
-- register has the value zero. For any field. Assumes nothing.
use mathlib.Core.Path.{◌≡◌, refl, sym, ap, ap₂, ◌∙◌}
use mathlib.Core.List.{List, ◌++◌}
use Prim.Native.Nat.{ℕ, zero, suc, ◌+◌, ◌^◌, ◌<◌}
use native.Mathlib.Nat.{le_refl}
use lib.ListN.{length, get_or, get_or-eq_default}
use Rattle.fields.specs.Elements.{xor, times}
use Rattle.fields.specs.Field.{Field}
use Rattle.fields.specs.Lists.{tabulate}
use Rattle.fields.specs.Places.{at, horner, value}
use Rattle.fields.proofs.Lists.{tabulate_at, tabulate_length}
use Rattle.fields.proofs.Xor.{xor_zero_r, xor_comm, xor_assoc, xor_self, xor_cancel, additive_zero}
use Rattle.decoding.proofs.Algebra.Values.{value_lt}
use Rattle.words.specs.ReedSolomon.{shifted_in, divided}
use Rattle.words.proofs.Codes.Horner.{Additive, iter, iter_sum, iter_in, horner_same, horner_sum, horner_front, horner_append, horner_zero, horner_zeros}
use Rattle.words.proofs.Codes.TableValues.{divided_lt}

pub divided_length : (mul : ℕ → ℕ → ℕ) (n : ℕ) (g d : ℕ → ℕ) (k : ℕ) → length (divided mul n g d k) ≡ n
unfolding divided shifted_in
divided_length mul n g d zero = tabulate_length n (λ i. 0)
divided_length mul n g d (suc k) = tabulate_length n _

tabulate_map : (φ : ℕ → ℕ) (f g : ℕ → ℕ) → φ 0 ≡ 0 → ((i : ℕ) → φ (f i) ≡ g i) → (n i : ℕ) → φ (get_or (tabulate n f) i 0) ≡ get_or (tabulate n g) i 0
unfolding tabulate
tabulate_map φ f g z h zero i = z
tabulate_map φ f g z h (suc n) zero = h 0
tabulate_map φ f g z h (suc n) (suc i) = tabulate_map φ (λ i. f (suc i)) (λ i. g (suc i)) z (λ i. h (suc i)) n i

-- a map that respects sums and products carries a division over
module _ (φ : ℕ → ℕ) (mul mul' : ℕ → ℕ → ℕ) (sum : Additive φ) (product : (x y : ℕ) → φ (mul x y) ≡ mul' (φ x) (φ y)) (n : ℕ) (g d : ℕ → ℕ) where
  abbrev reg : ℕ → List ℕ
  reg = divided mul n g d

  abbrev image : ℕ → List ℕ
  image = divided mul' n (λ i. φ (g i)) (λ i. φ (d i))

  pub divided_carried : (k i : ℕ) → φ (at (reg k) i) ≡ at (image k) i
  unfolding divided shifted_in
  divided_carried zero i = tabulate_map φ (λ i. 0) (λ i. 0) (additive_zero φ sum) (λ i. additive_zero φ sum) n i
  divided_carried (suc k) i =
      let leading : φ (xor (at (reg k) 0) (d k)) ≡ xor (at (image k) 0) (φ (d k)) = sum _ _ ∙ ap (λ (x : ℕ). xor x (φ (d k))) (divided_carried k 0) in
      tabulate_map φ _ _ (additive_zero φ sum)
      (λ i. sum _ _ ∙ ap₂ xor (divided_carried k (suc i)) (product _ _ ∙ ap (λ (f : ℕ). mul' f (φ (g (suc i)))) leading)) n i

module _ (m p : ℕ) (F : Field m p) (x : ℕ) (hx : x < 2 ^ m) where
  abbrev f : ℕ → ℕ
  f v = times m p v x

  f_sum : Additive f
  f_sum u v = F.sum_times u v x

  -- the value of a multiple of a word
  pub value_times : (a : ℕ) → a < 2 ^ m → (b : ℕ → ℕ) → ((i : ℕ) → b i < 2 ^ m) → (n : ℕ) → value m p x (λ i. times m p a (b i)) n ≡ times m p a (value m p x b n)
  unfolding horner
  value_times a ha b h zero = sym (F.times_zero a)
  value_times a ha b h (suc n) =
      ap (λ (v : ℕ). xor (times m p v x) (times m p a (b n))) (value_times a ha b h n)
      ∙ ap (λ (v : ℕ). xor v (times m p a (b n))) (F.times_assoc a _ x ha (value_lt m p F x b h n) hx) ∙ sym (F.times_sum a _ _)

  -- a word without its first symbol
  tail_value : (b : ℕ → ℕ) (n : ℕ) → horner f (λ i. b (suc i)) n ≡ xor (iter f n (b 0)) (horner f b (suc n))
  tail_value b n = sym (xor_cancel (iter f n (b 0)) _) ∙ ap (xor (iter f n (b 0))) (sym (horner_front f f_sum b n))

  -- g has degree n, the leading coefficient 1, and vanishes at x
  module _ (n : ℕ) (g : ℕ → ℕ) (hg : (i : ℕ) → g i < 2 ^ m) (monic : g 0 ≡ 1) (root : value m p x g (suc n) ≡ 0) where
    register_tail : (reg : List ℕ) → length reg ≡ n → horner f (λ i. at reg (suc i)) n ≡ xor (iter f n (at reg 0)) (f (horner f (at reg) n))
    unfolding horner
    register_tail reg long =
        let none : at reg n ≡ 0 = get_or-eq_default reg 0 {n = n} (rw long (le_refl n)) in
        tail_value (at reg) n ∙ ap (xor (iter f n (at reg 0))) (ap (xor (f (horner f (at reg) n))) none ∙ xor_zero_r _)

    multiple_tail : (a : ℕ) → a < 2 ^ m → horner f (λ i. times m p a (g (suc i))) n ≡ iter f n a
    multiple_tail a h =
        tail_value (λ i. times m p a (g i)) n
        ∙ ap₂ xor (ap (iter f n) (ap (times m p a) monic ∙ F.times_one a h)) (value_times a h g hg (suc n) ∙ ap (times m p a) root ∙ F.times_zero a)
        ∙ xor_zero_r _

    -- one step: the register's value is multiplied by x, and the symbol is added at the power x^n
    shifted_value : (reg : List ℕ) (s : ℕ) → length reg ≡ n → at reg 0 < 2 ^ m → s < 2 ^ m →
        value m p x (at (shifted_in (times m p) n g reg s)) n ≡ xor (f (value m p x (at reg) n)) (iter f n s)
    unfolding shifted_in
    shifted_value reg s long hr hs =
        let r = at reg 0 in
        let a = xor r s in
        let v = f (value m p x (at reg) n) in
        horner_same f _ _ n (λ i l. tabulate_at n _ i 0 l) ∙ horner_sum f f_sum (λ i. at reg (suc i)) (λ i. times m p a (g (suc i))) n
        ∙ ap₂ xor (register_tail reg long) (multiple_tail a (F.sum_lt r s hr hs))
        ∙ ap (λ (u : ℕ). xor u (iter f n a)) (xor_comm (iter f n r) v) ∙ xor_assoc v (iter f n r) (iter f n a)
        ∙ ap (xor v) (sym (iter_sum f f_sum n r a) ∙ ap (iter f n) (xor_cancel r s))

    -- the register holds the value of the data times x^n
    pub register_value : (d : ℕ → ℕ) → ((i : ℕ) → d i < 2 ^ m) → (k : ℕ) → value m p x (at (divided (times m p) n g d k)) n ≡ iter f n (value m p x d k)
    unfolding divided horner
    register_value d hd zero =
        horner_same f _ (λ i. 0) n (λ i l. tabulate_at n (λ i. 0) i 0 l) ∙ horner_zero f f_sum (λ i. 0) (λ i. refl) n
        ∙ sym (additive_zero (iter f n) (iter_sum f f_sum n))
    register_value d hd (suc k) =
        shifted_value (divided (times m p) n g d k) (d k) (divided_length (times m p) n g d k) (divided_lt m p F n g d hg hd k 0) (hd k)
        ∙ ap (λ (v : ℕ). xor (f v) (iter f n (d k))) (register_value d hd k)
        ∙ ap (λ (v : ℕ). xor v (iter f n (d k))) (sym (iter_in f n (value m p x d k))) ∙ sym (iter_sum f f_sum n _ _)

    pub completed_value : (d : List ℕ) → ((i : ℕ) → at d i < 2 ^ m) →
        value m p x (at (d ++ divided (times m p) n g (at d) (length d))) (length d + n) ≡ 0
    completed_value d hd =
        horner_append f f_sum d (divided (times m p) n g (at d) (length d)) n
        ∙ ap₂ xor (horner_zeros f f_sum d n) (register_value (at d) hd (length d)) ∙ xor_self _
