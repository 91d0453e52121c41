-- Values of words of elements. Assumes nothing.
use mathlib.Core.Path.{◌≡◌, refl, sym, ap, ap₂, ◌∙◌}
use Prim.Native.Nat.{ℕ, zero, suc, ◌%◌, ◌^◌, ◌<◌}
use native.Mathlib.Nat.{mod-eq_of_lt}
use lib.Pow.{pow_pos}
use Rattle.fields.specs.Elements.{xor, times}
use Rattle.fields.specs.Field.{Field}
use Rattle.fields.specs.Places.{horner, value}
use Rattle.decoding.proofs.Algebra.PowerSums.{value_at}
use Rattle.decoding.proofs.Algebra.Elements.{ops}

module _ (m p : ℕ) (F : Field m p) where
  -- the value of a word of elements is an element
  pub value_lt : (x : ℕ) (b : ℕ → ℕ) → ((i : ℕ) → b i < 2 ^ m) → (n : ℕ) → value m p x b n < 2 ^ m
  unfolding horner
  value_lt x b h zero = pow_pos m
  value_lt x b h (suc n) = F.sum_lt _ _ (F.times_lt _ x (value_lt x b h n)) (h n)

  -- the value of a word is that of the abstract algebra
  pub value_abstract : (x : ℕ) → x < 2 ^ m → (b : ℕ → ℕ) → ((i : ℕ) → b i < 2 ^ m) → (n : ℕ) → value m p x b n ≡ value_at (ops m p) x b n
  unfolding horner value_at
  value_abstract x hx b h zero = refl
  value_abstract x hx b h (suc n) =
      ap (λ (v : ℕ). xor v (b n)) (sym (ap₂ (times m p) (mod-eq_of_lt (value_lt x b h n)) (mod-eq_of_lt hx))
      ∙ ap (λ (v : ℕ). times m p (v % 2 ^ m) (x % 2 ^ m)) (value_abstract x hx b h n))
