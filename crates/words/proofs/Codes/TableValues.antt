-- Values over a lent field are those of the field, and a division of elements by elements leaves elements. For any degree m and polynomial p.
-- Assumes nothing.
use mathlib.Core.Path.{◌≡◌, refl, ap, ap₂, ◌∙◌}
use mathlib.Core.List.{List}
use Prim.Native.Nat.{ℕ, zero, suc, ◌^◌, ◌<◌}
use native.Mathlib.Nat.{mod-eq_of_lt}
use lib.ListN.{length}
use lib.Pow.{pow_pos}
use Rattle.fields.specs.Elements.{xor, times, powers, exponents}
use Rattle.fields.specs.Field.{Field}
use Rattle.fields.specs.Steps.ByTables.{table_product}
use Rattle.fields.specs.Places.{at, horner, value}
use Rattle.fields.proofs.ByTables.{table_product_lem}
use Rattle.fields.proofs.Lists.{tabulate_lt}
use Rattle.decoding.specs.Steps.ByTables.{table_value}
use Rattle.decoding.proofs.Algebra.Values.{value_lt}
use Rattle.words.specs.ReedSolomon.{shifted_in, divided}

module _ (m p : ℕ) (F : Field m p) where
  pub product_same : (x y : ℕ) → x < 2 ^ m → y < 2 ^ m → table_product (powers m p) (exponents m p) x y ≡ times m p x y
  product_same x y hx hy = table_product_lem m p F x y ∙ ap₂ (times m p) (mod-eq_of_lt hx) (mod-eq_of_lt hy)

  pub horner_by_tables : (x : ℕ) → x < 2 ^ m → (b : ℕ → ℕ) → ((i : ℕ) → b i < 2 ^ m) → (n : ℕ) → horner (λ v. table_product (powers m p) (exponents m p) v x) b n ≡ value m p x b n
  unfolding horner
  horner_by_tables x hx b h zero = refl
  horner_by_tables x hx b h (suc n) =
      ap (λ (v : ℕ). xor v (b n)) (ap (λ (v : ℕ). table_product (powers m p) (exponents m p) v x) (horner_by_tables x hx b h n) ∙ product_same _ x (value_lt m p F x b h n) hx)

  pub value_by_tables : (x : ℕ) → x < 2 ^ m → (w : List ℕ) → ((i : ℕ) → at w i < 2 ^ m) → table_value (powers m p) (exponents m p) w x ≡ value m p x (at w) (length w)
  unfolding table_value
  value_by_tables x hx w h = horner_by_tables x hx (at w) h (length w)

  -- the register of a division of elements by elements holds elements
  module _ (n : ℕ) (g d : ℕ → ℕ) (hg : (i : ℕ) → g i < 2 ^ m) (hd : (i : ℕ) → d i < 2 ^ m) where
    pub divided_lt : (k i : ℕ) → at (divided (times m p) n g d k) i < 2 ^ m
    unfolding divided shifted_in
    divided_lt zero i = tabulate_lt (2 ^ m) n (λ i. 0) (pow_pos m) (λ i. pow_pos m) i
    divided_lt (suc k) i =
        let r = divided_lt k in
        tabulate_lt (2 ^ m) n _ (pow_pos m) (λ j. F.sum_lt _ _ (r (suc j)) (F.times_lt _ _ (F.sum_lt _ _ (r 0) (hd k)))) i
