-- FieldTables the tables of a field, the functions over tables give the field's powers, products and inverses. For any degree m and polynomial p.
-- Assumes nothing.
use mathlib.Core.Path.{◌≡◌, sym, ◌∙◌}
use mathlib.Core.List.{List}
use Prim.Native.Nat.{ℕ, ◌+◌, ◌-◌, ◌%◌, ◌^◌, ◌<◌}
use native.Mathlib.Nat.{mod-lt}
use native.Mathlib.Decide.{ℕ_discrete}
use native.Mathlib.Omega.{arith}
use borrow.Author.Tests.{ne_eqb}
use lib.Bits.{and_mask}
use lib.ListN.{length, get_or}
use lib.Pow.{pow_pos}
use Rattle.fields.specs.Elements.{times, power, exponent, inverse, powers, exponents}
use Rattle.fields.specs.Field.{Field}
use Rattle.fields.specs.Steps.ByTables.{place_in, power_near, table_power, product_at, table_product, inverse_at, table_inverse, FieldTables}
use Rattle.fields.proofs.Doubling.{two_le}
use Rattle.fields.proofs.Lists.{tabulate_at, tabulate_length}
use Rattle.fields.proofs.Ways.{wrapped_modulo}

module _ (m p : ℕ) (F : Field m p) where
  some_powers : 0 < 2 ^ m - 1
  some_powers = omega (arith, two_le m F.positive)

  pub powers_length : length (powers m p) ≡ 2 ^ m - 1
  unfolding powers
  powers_length = tabulate_length (2 ^ m - 1) (power m p)

  exp_at : (i : ℕ) → i < 2 ^ m - 1 → get_or (powers m p) i 0 ≡ power m p i
  unfolding powers
  exp_at i h = tabulate_at (2 ^ m - 1) (power m p) i 0 h

  pub table_power_lem : (i : ℕ) → table_power (powers m p) i ≡ power m p i
  unfolding table_power
  table_power_lem i = rw powers_length (exp_at (i % (2 ^ m - 1)) (mod-lt i some_powers) ∙ F.power_mod i)

  near_power : (i : ℕ) → i < 2 ^ m - 1 + (2 ^ m - 1) → power_near (powers m p) i ≡ power m p i
  unfolding power_near table_power
  near_power i h = rw (wrapped_modulo (length (powers m p)) i (rw powers_length h)) (table_power_lem i)

  pub exponents_length : length (exponents m p) ≡ 2 ^ m
  unfolding exponents
  exponents_length = tabulate_length (2 ^ m) (exponent m p)

  pub place_is : (x : ℕ) → place_in (length (exponents m p)) x ≡ x % 2 ^ m
  unfolding place_in
  place_is x = rw exponents_length (and_mask x m)

  pub log_at : (a : ℕ) → a < 2 ^ m → get_or (exponents m p) a 0 ≡ exponent m p a
  unfolding exponents
  log_at a h = tabulate_at (2 ^ m) (exponent m p) a 0 h

  product_is : (a b : ℕ) → a < 2 ^ m → b < 2 ^ m → Dec (a ≡ 0) → Dec (b ≡ 0) → product_at (powers m p) (exponents m p) a b ≡ times m p a b
  unfolding product_at
  product_is a b ha hb (yes z) d = rw z (sym (F.times_comm 0 b (pow_pos m) hb ∙ F.times_zero b))
  product_is a b ha hb (no n) (yes z) = rw (ne_eqb a 0 n, z) (sym (F.times_zero a))
  product_is a b ha hb (no n) (no k) =
      let la = F.exponent_lt a in
      let lb = F.exponent_lt b in
      rw (ne_eqb a 0 n, ne_eqb b 0 k, log_at a ha, log_at b hb, near_power (exponent m p a + exponent m p b) (omega arith)) (sym (F.times_exponents a b (omega arith) ha (omega arith) hb))

  pub table_product_lem : (x y : ℕ) → table_product (powers m p) (exponents m p) x y ≡ times m p (x % 2 ^ m) (y % 2 ^ m)
  unfolding table_product
  table_product_lem x y =
      rw (place_is x, place_is y)
      (product_is (x % 2 ^ m) (y % 2 ^ m) (mod-lt x (pow_pos m)) (mod-lt y (pow_pos m)) (ℕ_discrete (x % 2 ^ m) 0) (ℕ_discrete (y % 2 ^ m) 0))

  inverse_is : (a : ℕ) → a < 2 ^ m → Dec (a ≡ 0) → inverse_at (powers m p) (exponents m p) a ≡ inverse m p a
  unfolding inverse_at
  inverse_is a ha (yes z) = rw z (sym F.inverse_zero)
  inverse_is a ha (no n) = rw (ne_eqb a 0 n, log_at a ha, powers_length, near_power (2 ^ m - 1 - exponent m p a) (omega (arith, some_powers))) (sym (F.inverse_exponent a (omega arith) ha))

  pub table_inverse_lem : (x : ℕ) → table_inverse (powers m p) (exponents m p) x ≡ inverse m p (x % 2 ^ m)
  unfolding table_inverse
  table_inverse_lem x = rw (place_is x) (inverse_is (x % 2 ^ m) (mod-lt x (pow_pos m)) (ℕ_discrete (x % 2 ^ m) 0))

-- what the tables give, lent those of a field
pub power_by_tables : (es : List ℕ) (i r m p : ℕ) → r ≡ table_power es i → Field m p → es ≡ powers m p → r ≡ power m p i
power_by_tables es i r m p e F ee = e ∙ rw ee (table_power_lem m p F i)

pub product_by_tables : (es ls : List ℕ) (x y r m p : ℕ) → r ≡ table_product es ls x y → FieldTables m p es ls → r ≡ times m p (x % 2 ^ m) (y % 2 ^ m)
product_by_tables es ls x y r m p e L = e ∙ rw (L.exp, L.log) (table_product_lem m p L.field x y)

pub inverse_by_tables : (es ls : List ℕ) (x r m p : ℕ) → r ≡ table_inverse es ls x → FieldTables m p es ls → r ≡ inverse m p (x % 2 ^ m)
inverse_by_tables es ls x r m p e L = e ∙ rw (L.exp, L.log) (table_inverse_lem m p L.field x)
