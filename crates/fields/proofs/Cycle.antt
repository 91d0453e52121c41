-- The order of 2, from one computed test: the powers of 2 come round to 1 after 2^m - 1 steps, and not before. For any degree m and
-- polynomial p. Assumes nothing.
use mathlib.Core.Path.{◌≡◌, refl, sym, ap, ◌∙◌}
use mathlib.Core.Bool.{Bool, true, false, not}
use Prim.Native.Nat.{ℕ, zero, suc, ◌+◌, ◌-◌, ◌/◌, ◌^◌, ◌<◌}
use native.Mathlib.Omega.{arith}
use borrow.Author.Tests.{eq-eqb}
use lib.Dec.{T, eqb, eqb→eq}
use Rattle.fields.specs.Elements.{doubled, power}
use Rattle.fields.proofs.Doubling.{two_le}
use Rattle.fields.proofs.Walk.{walk, walk_at}

-- p has degree m, which is not 0, and 2 has the order 2^m - 1
pub record Cyclic (m p : ℕ) : Type 0 where
  pub positive : 0 < m
  pub degree : p / 2 ^ m ≡ 1
  pub cycle : power m p (2 ^ m - 1) ≡ 1
  pub order : (d : ℕ) → d < 2 ^ m - 1 → power m p d ≡ 1 → d ≡ 0

-- a and b are both true or both false
abbrev pub alike : Bool → Bool → Bool
alike true b = b
alike false b = not b

alike_left : (a b : Bool) → T (alike a b) → b ≡ true → T a
alike_left true b t e = tt
alike_left false b t e = rw e at t

alike_right : (a b : Bool) → T (alike a b) → a ≡ true → T b
alike_right a b t e = rw e at t

module _ (m p : ℕ) where
  -- x is 1 just where i is 2^m - 1
  abbrev pub one_at_end : ℕ → ℕ → Bool
  one_at_end i x = alike (eqb x 1) (eqb i (2 ^ m - 1))

  -- the powers of 2 from the first to the last: only the last is 1
  abbrev pub round : Bool
  round = walk m p one_at_end (2 ^ m - 1) 1 (doubled m p 1)

  module _ (positive : 0 < m) (test : T round) where
    at : (j : ℕ) → j < 2 ^ m - 1 → T (one_at_end (1 + j) (power m p (1 + j)))
    unfolding power
    at = walk_at m p one_at_end (2 ^ m - 1) 1 (doubled m p 1) refl test

    cycle : power m p (2 ^ m - 1) ≡ 1
    cycle =
        let two = two_le m positive in
        let i = 1 + (2 ^ m - 2) in
        let e : i ≡ 2 ^ m - 1 = omega arith in
        ap (power m p) (sym e)
        ∙ eqb→eq (power m p i) 1 (alike_left (eqb (power m p i) 1) (eqb i (2 ^ m - 1)) (at (2 ^ m - 2) (omega arith)) (eq-eqb i (2 ^ m - 1) e))

    order : (d : ℕ) → d < 2 ^ m - 1 → power m p d ≡ 1 → d ≡ 0
    order zero h q = refl
    order (suc d) h q =
        let i = 1 + d in
        let e : suc d ≡ i = omega arith in
        let z : i ≡ 2 ^ m - 1 =
        eqb→eq i (2 ^ m - 1)
        (alike_right (eqb (power m p i) 1) (eqb i (2 ^ m - 1)) (at d (omega arith)) (eq-eqb (power m p i) 1 (ap (power m p) (sym e) ∙ q))) in
        absurd (omega arith)

    pub cyclic : p / 2 ^ m ≡ 1 → Cyclic m p
    cyclic degree = record { positive = positive; degree = degree; cycle = cycle; order = order }
