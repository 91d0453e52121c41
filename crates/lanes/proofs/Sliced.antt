-- The words in which some number of several has a 1, number by number; and bytes turned round. Assumes nothing.
use mathlib.Core.Path.{◌≡◌, refl}
use Prim.Native.Nat.{ℕ, ◌+◌, ◌≤◌, ◌<◌}
use native.Mathlib.Numerals.{add-one}
use native.Mathlib.Omega.{arith}
use lib.Bits.{bit_or}
use Rattle.lanes.specs.Steps.Sliced.{turned, or_to}

module _ (f : ℕ → ℕ) where
  pub some_none : 0 ≡ or_to 0 f
  unfolding or_to
  some_none = refl

  module _ (i : ℕ) {x : ℕ} (so_far : x ≡ or_to i f) where
    pub some_next : {y : ℕ} → y ≡ f i → bit_or x y ≡ or_to (i + 1) f
    unfolding or_to
    some_next ey = rw (add-one, so_far, ey)

    pub some_end : (n : ℕ) → i ≤ n → n ≤ i → x ≡ or_to n f
    some_end n l h = let e : i ≡ n = omega arith in rw e at so_far

-- ---- bytes turned round

pub turned_lt : (k : ℕ) → k < 64 → turned k < 64
unfolding turned
turned_lt k h = omega arith

pub turned_twice : (k : ℕ) → k < 64 → turned (turned k) ≡ k
unfolding turned
turned_twice k h = omega arith
