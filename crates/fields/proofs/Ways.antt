-- A law for each way through the functions over tables: what a function computes on it is what the definition says. Assumes nothing.
use mathlib.Core.Path.{◌≡◌, sym, ◌∙◌}
use mathlib.Core.List.{List}
use Prim.Native.Nat.{ℕ, ◌+◌, ◌-◌, ◌%◌, ◌≤◌, ◌<◌}
use native.Mathlib.Decide.{dec_lt}
use native.Mathlib.Nat.{mod-eq_of_lt, mod-eq-sub-mod}
use native.Mathlib.Omega.{arith}
use borrow.Author.Tests.{eq-eqb, le-ltb, lt-ltb, ne_eqb}
use lib.Bits.{bit_and, and_le_r, and_zero_r}
use lib.ListN.{length, get_or, get_or-eq_default}
use Rattle.fields.specs.Steps.ByTables.{place_in, wrapped, power_near, table_power, product_at, table_product, inverse_at, table_inverse}

-- places
pub place_made : (n x w : ℕ) → w ≡ x → bit_and w (n - 1) ≡ place_in n x
unfolding place_in
place_made n x w e = rw e

pub place_lt : (n w : ℕ) → 0 < n → bit_and w (n - 1) < n
place_lt n w h = omega (arith, and_le_r w (n - 1))

none_place : (n x : ℕ) → n ≡ 0 → place_in n x ≡ 0
unfolding place_in
none_place n x e = rw e (and_zero_r x)

-- one subtraction
pub wrapped_below : (n i : ℕ) → i < n → i ≡ wrapped n i
unfolding wrapped
wrapped_below n i h = rw (lt-ltb i n h)

pub wrapped_above : (n i : ℕ) → n ≤ i → i - n ≡ wrapped n i
unfolding wrapped
wrapped_above n i h = rw (le-ltb i n h)

-- below twice n it gives what a division would
pub wrapped_modulo : (n i : ℕ) → i < n + n → wrapped n i ≡ i % n
wrapped_modulo n i h = go (dec_lt i n)
  where
    go : Dec (i < n) → wrapped n i ≡ i % n
    go (yes l) = sym (wrapped_below n i l) ∙ sym (mod-eq_of_lt l)
    go (no l) = let m : n ≤ i = omega arith in sym (wrapped_above n i m) ∙ sym (mod-eq-sub-mod m ∙ mod-eq_of_lt (omega arith))

-- a remainder by subtractions
pub mod_less : (n k a : ℕ) → k % n ≡ a → n ≤ k → (k - n) % n ≡ a
mod_less n k a e h = sym (mod-eq-sub-mod h) ∙ e

pub mod_below : (n k a : ℕ) → k % n ≡ a → k < n → k ≡ a
mod_below n k a e h = sym (mod-eq_of_lt h) ∙ e

-- the ways through the reading of a power
pub past : (es : List ℕ) (k : ℕ) → length es ≤ k → 0 ≡ get_or es k 0
past es k h = sym (get_or-eq_default es 0 {n = k} h)

pub near_read : (es : List ℕ) (i k : ℕ) → k ≡ wrapped (length es) i → get_or es k 0 ≡ power_near es i
unfolding power_near
near_read es i k e = rw e

pub near_past : (es : List ℕ) (i k : ℕ) → k ≡ wrapped (length es) i → length es ≤ k → 0 ≡ power_near es i
near_past es i k e h = past es k h ∙ near_read es i k e

pub power_none : (es : List ℕ) (i : ℕ) → length es ≡ 0 → 0 ≡ table_power es i
unfolding table_power
power_none es i e = past es (i % length es) (omega arith)

pub power_read : (es : List ℕ) (i w k : ℕ) → w ≡ i → k ≡ w % length es → get_or es k 0 ≡ table_power es i
unfolding table_power
power_read es i w k e h = rw (← e, h)

-- the ways through a product
pub product_none : (es ls : List ℕ) (x y : ℕ) → length ls ≡ 0 → 0 ≡ table_product es ls x y
unfolding table_product product_at
product_none es ls x y e = rw (none_place (length ls) x e)

module _ (es ls : List ℕ) (x y a : ℕ) (ea : a ≡ place_in (length ls) x) where
  pub product_left : a ≡ 0 → 0 ≡ table_product es ls x y
  unfolding table_product product_at
  product_left z = rw (← ea, eq-eqb a 0 z)

  module _ (na : a ≡ 0 → ⊥) (b : ℕ) (eb : b ≡ place_in (length ls) y) where
    pub product_right : b ≡ 0 → 0 ≡ table_product es ls x y
    unfolding table_product product_at
    product_right z = rw (← ea, ← eb, ne_eqb a 0 na, eq-eqb b 0 z)

    pub product_both : (b ≡ 0 → ⊥) → (i j r : ℕ) → i ≡ get_or ls a 0 → j ≡ get_or ls b 0 → r ≡ power_near es (i + j) → r ≡ table_product es ls x y
    unfolding table_product product_at
    product_both nb i j r ei ej e = rw (← ea, ← eb, ne_eqb a 0 na, ne_eqb b 0 nb, ← ei, ← ej) e

-- the ways through an inverse
pub inverse_none : (es ls : List ℕ) (x : ℕ) → length ls ≡ 0 → 0 ≡ table_inverse es ls x
unfolding table_inverse inverse_at
inverse_none es ls x e = rw (none_place (length ls) x e)

module _ (es ls : List ℕ) (x a : ℕ) (ea : a ≡ place_in (length ls) x) where
  pub inverse_of_zero : a ≡ 0 → 0 ≡ table_inverse es ls x
  unfolding table_inverse inverse_at
  inverse_of_zero z = rw (← ea, eq-eqb a 0 z)

  pub inverse_some : (a ≡ 0 → ⊥) → (i k r : ℕ) → i ≡ get_or ls a 0 → k ≡ length es - i → r ≡ power_near es k → r ≡ table_inverse es ls x
  unfolding table_inverse inverse_at
  inverse_some na i k r ei ek e = rw (← ea, ne_eqb a 0 na, ← ei, ← ek) e
