-- Tables of powers by sums: the powers of x = 1 / a^d satisfy x^far = x^(far - near) + 1, so an entry is the sum of two before it. Assumes nothing.
use mathlib.Core.Path.{◌≡◌, refl, sym, ap, ap₂, ◌∙◌}
use mathlib.Core.Bool.{Bool, true}
use Prim.Native.Nat.{ℕ, suc, ◌+◌, ◌-◌, ◌*◌, ◌%◌, ◌≤◌, ◌<◌}
use native.Mathlib.Nat.{mul-add}
use native.Mathlib.Omega.{arith}
use borrow.Author.Tests.{eqb-true, ltb-true}
use lib.Dec.{eqb, ltb}
use Rattle.fields.specs.Elements.{xor, scale, doubled, power, powers_b, exponents_b}
use Rattle.fields.specs.Steps.ByTables.{table_product, table_power}
use Rattle.fields.specs.Places.{at, every}
use Rattle.fields.proofs.ByTables.{table_power_lem}
use Rattle.fields.proofs.Instances.{field_b}
use Rattle.fields.proofs.Places.Tests.{every_at}
use Rattle.decoding.specs.Steps.PowerTables.{near, far}
use Rattle.decoding.proofs.Algebra.Tables.{table_laws, table_powers, table_power_sum, tables_b}

-- the power of x = a^(-d), and the test of table d
unfoldable entry_power : ℕ → ℕ → ℕ
entry_power d m = power 11 2053 ((2047 - d) * m % 2047)

unfoldable trinomial : ℕ → Bool
trinomial d = eqb (entry_power d (at far d)) (xor (entry_power d (at far d - at near d)) 1)

all_trinomials : every 8 (λ d. trinomial (suc d)) ≡ true
unfolding every trinomial entry_power power doubled scale xor near far
all_trinomials = refl

all_gaps : every 9 (λ d. ltb 39 (at near d)) ≡ true
unfolding every near
all_gaps = refl

all_more : every 9 (λ d. ltb (at near d) (at far d)) ≡ true
unfolding every near far
all_more = refl

pub near_least : (d : ℕ) → d ≤ 8 → 40 ≤ at near d
near_least d h = ltb-true 39 (at near d) (every_at 9 (λ d. ltb 39 (at near d)) all_gaps d (omega arith))

pub far_more : (d : ℕ) → d ≤ 8 → at near d < at far d
far_more d h = ltb-true (at near d) (at far d) (every_at 9 (λ d. ltb (at near d) (at far d)) all_more d (omega arith))

entry_power_lem : (d m : ℕ) → table_power powers_b ((2047 - d) * m) ≡ entry_power d m
unfolding entry_power
entry_power_lem d m = table_power_lem 11 2053 field_b ((2047 - d) * m) ∙ sym (field_b.power_mod ((2047 - d) * m))

trinomial_at : (d : ℕ) → 0 < d → d ≤ 8 → table_power powers_b ((2047 - d) * at far d) ≡ xor (table_power powers_b ((2047 - d) * (at far d - at near d))) 1
unfolding trinomial
trinomial_at d pos most =
    let e : suc (d - 1) ≡ d = omega arith in
    let test : trinomial d ≡ true = rw e at (every_at 8 (λ d. trinomial (suc d)) all_trinomials (d - 1) (omega arith)) in
    entry_power_lem d (at far d) ∙ eqb-true _ _ test ∙ sym (ap (λ (v : ℕ). xor v 1) (entry_power_lem d (at far d - at near d)))

-- entry m of table d is the sum of two entries before it
pub table_sum : (d m : ℕ) → 0 < d → d ≤ 8 → at far d ≤ m →
    table_power powers_b ((2047 - d) * m) ≡ xor (table_power powers_b ((2047 - d) * (m - at near d))) (table_power powers_b ((2047 - d) * (m - at far d)))
table_sum d m pos most h =
    ap X whole ∙ ap (λ (k : ℕ). table_power powers_b k) (mul-add (2047 - d) r q)
    ∙ table_power_sum powers_b exponents_b tables_b ((2047 - d) * r) ((2047 - d) * q)
    ∙ ap (table_product powers_b exponents_b (X r)) (trinomial_at d pos most)
    ∙ (table_laws powers_b exponents_b tables_b).mul-add (X r) (X (q - p)) 1
    ∙ ap₂ xor
    (sym (table_power_sum powers_b exponents_b tables_b ((2047 - d) * r) ((2047 - d) * (q - p))) ∙ ap (λ (k : ℕ). table_power powers_b k) (sym (mul-add (2047 - d) r (q - p))) ∙ ap X part)
    ((table_laws powers_b exponents_b tables_b).mul_comm (X r) 1 ∙ (table_laws powers_b exponents_b tables_b).one-mul (X r) ((table_powers powers_b exponents_b tables_b).inside ((2047 - d) * r)))
  where
    p : ℕ
    p = at near d

    q : ℕ
    q = at far d

    r : ℕ
    r = m - q

    X : ℕ → ℕ
    X k = table_power powers_b ((2047 - d) * k)

    whole : m ≡ r + q
    whole = omega arith

    part : r + (q - p) ≡ m - p
    part = omega (arith, far_more d most)
