-- The square of a binary word's value is its value at the square. Assumes nothing.
use mathlib.Core.Path.{◌≡◌, sym, ap, ap₂, ◌∙◌}
use Prim.Native.Nat.{ℕ, zero, suc, ◌^◌, ◌<◌}
use native.Mathlib.Omega.{arith}
use Rattle.fields.specs.Elements.{xor, times}
use Rattle.fields.specs.Field.{Field}
use Rattle.fields.specs.Places.{horner, value}
use Rattle.fields.proofs.Doubling.{two_le}
use Rattle.decoding.proofs.Algebra.Values.{value_lt}

module _ (m p : ℕ) (F : Field m p) where
  bit_lt : (t : ℕ) → t < 2 → t < 2 ^ m
  bit_lt t h = omega (arith, two_le m F.positive)

  square_bit : (t : ℕ) → t < 2 → times m p t t ≡ t
  square_bit zero h = F.times_zero 0
  square_bit (suc zero) h = F.times_one 1 (bit_lt 1 h)
  square_bit (suc (suc t)) h = absurd (omega arith)

  square_product : (v x : ℕ) → v < 2 ^ m → x < 2 ^ m → times m p (times m p v x) (times m p v x) ≡ times m p (times m p v v) (times m p x x)
  square_product v x hv hx =
      let l = F.times_lt x x hx in
      F.times_assoc v x _ hv hx (F.times_lt v x hv)
      ∙ ap (times m p v) (ap (times m p x) (F.times_comm v x hv hx) ∙ sym (F.times_assoc x x v hx hx hv) ∙ F.times_comm _ v l hv)
      ∙ sym (F.times_assoc v v _ hv hv l)

  pub squares : (x : ℕ) → x < 2 ^ m → (b : ℕ → ℕ) → ((i : ℕ) → b i < 2) → (n : ℕ) →
      value m p (times m p x x) b n ≡ times m p (value m p x b n) (value m p x b n)
  unfolding horner
  squares x hx b bits zero = sym (F.times_zero 0)
  squares x hx b bits (suc n) =
      let v = value m p x b n in
      let hv = value_lt m p F x b (λ i. bit_lt (b i) (bits i)) n in
      ap (λ (u : ℕ). xor (times m p u (times m p x x)) (b n)) (squares x hx b bits n)
      ∙ ap₂ xor (sym (square_product v x hv hx)) (sym (square_bit (b n) (bits n)))
      ∙ sym (F.square_sum (times m p v x) (b n) (F.times_lt v x hv) (bit_lt (b n) (bits n)))
