-- Products without division: what every answer of `product` is, lent the tables of a field; then for the three fields. Assumes nothing.
use mathlib.Core.Path.{◌≡◌, refl, sym, ap, ap₂, ◌∙◌}
use Prim.Native.Nat.{ℕ, ◌-◌, ◌%◌, ◌^◌, ◌<◌}
use native.Mathlib.Decide.{dec_lt}
use native.Mathlib.Nat.{mod-eq_of_lt, mod-lt}
use native.Mathlib.Omega.{arith}
use borrow.Author.Tests.{ne_eqb}
use lib.ListN.{length}
use lib.Pow.{pow_pos}
use Rattle.fields.specs.Elements.{times, powers, exponents}
use Rattle.fields.specs.Field.{Field}
use Rattle.fields.specs.Places.{at}
use Rattle.fields.specs.Steps.ByTables.{wrapped, power_near, product_at, table_product}
use Rattle.fields.specs.Steps.Products.{ProductAnswer, exponent_sum, Products, ProductLaws}
use Rattle.fields.proofs.Instances.{field_a, field_b, field_c}
use Rattle.fields.proofs.Ways.{wrapped_below, wrapped_above, past}
use Rattle.fields.proofs.ByTables.{powers_length, log_at, place_is, exponents_length}

module _ (m p : ℕ) (F : Field m p) where
  -- the table of exponents has none from the length of the table of powers on, past its own end neither
  exponent_lt : (x : ℕ) → at (exponents m p) x < length (powers m p)
  exponent_lt x = rw (powers_length m p F) (go (dec_lt x (2 ^ m)))
    where
      go : Dec (x < 2 ^ m) → at (exponents m p) x < 2 ^ m - 1
      go (yes h) = rw (log_at m p F x h) (F.exponent_lt x)
      go (no h) = rw (sym (past (exponents m p) x (rw (exponents_length m p F) (omega arith)))) (omega (arith, F.exponent_lt 0))

  module _ (x y r : ℕ) (x_pos : 0 < x) (x_lt : x < 2 ^ m) (y-pos : 0 < y) (y-lt : y < 2 ^ m) (A : ProductAnswer m p x y r) where
    by_sum : r ≡ at (powers m p) (wrapped (length (powers m p)) (exponent_sum m p x y))
    unfolding table_product product_at power_near
    by_sum =
        A.by_tables
        ∙ rw (place_is m p F x, place_is m p F y, mod-eq_of_lt x_lt, mod-eq_of_lt y-lt, ne_eqb x 0 (λ e. omega arith), ne_eqb y 0 (λ e. omega arith))

  in_field : (x y r : ℕ) → ProductAnswer m p x y r → r ≡ times m p (x % 2 ^ m) (y % 2 ^ m)
  in_field x y r A = A.in_field m p (record { field = F; exp = refl; log = refl })

  pub products : Products m p
  products =
      record {
        all = λ x y r x_lt y-lt A. in_field x y r A ∙ ap₂ (times m p) (mod-eq_of_lt x_lt) (mod-eq_of_lt y-lt);
        zero_first = λ y r A.
            in_field 0 y r A ∙ rw (mod-eq_of_lt (pow_pos m)) (F.times_comm 0 (y % 2 ^ m) (pow_pos m) (mod-lt y (pow_pos m)) ∙ F.times_zero (y % 2 ^ m));
        zero_second = λ x r A. in_field x 0 r A ∙ rw (mod-eq_of_lt (pow_pos m)) (F.times_zero (x % 2 ^ m));
        below_twice = λ x y. omega (arith, exponent_lt x, exponent_lt y);
        sum_low = λ x y r x_pos x_lt y-pos y-lt A h. by_sum x y r x_pos x_lt y-pos y-lt A ∙ ap (at (powers m p)) (sym (wrapped_below (length (powers m p)) (exponent_sum m p x y) h));
        sum_high = λ x y r x_pos x_lt y-pos y-lt A h. by_sum x y r x_pos x_lt y-pos y-lt A ∙ ap (at (powers m p)) (sym (wrapped_above (length (powers m p)) (exponent_sum m p x y) h));
      }

pub product_laws : ProductLaws
product_laws = record { field_a = products 10 1033 field_a; field_b = products 11 2053 field_b; field_c = products 8 285 field_c }
