-- A test at each step of a walk along the powers of 2, by the doubling rule. Assumes nothing.
use mathlib.Core.Path.{◌≡◌, ap}
use mathlib.Core.Bool.{Bool, true, false, ◌&&◌}
use Prim.Native.Nat.{ℕ, zero, suc, ◌+◌, ◌<◌}
use native.Mathlib.Nat.{add-zero, add-suc, suc-add, le_of_suc-le-suc, not-suc-le-zero}
use lib.Dec.{T}
use lib.Ieee.Fits.{and_l, and_r}
use Rattle.fields.specs.Elements.{doubled, power}

module _ (m p : ℕ) where
  -- f holds of i and x, of i + 1 and the double of x, and so on for n steps; a power is never 0
  abbrev pub walk : (ℕ → ℕ → Bool) → ℕ → ℕ → ℕ → Bool
  walk f zero i x = true
  walk f (suc n) i zero = false
  walk f (suc n) i (suc x) = f i (suc x) && walk f n (suc i) (doubled m p (suc x))

  next : (i x : ℕ) → x ≡ power m p i → doubled m p x ≡ power m p (suc i)
  unfolding power
  next i x e = ap (doubled m p) e

  -- what is tested along the walk holds at each power that it passes
  pub walk_at : (f : ℕ → ℕ → Bool) (n i x : ℕ) → x ≡ power m p i → T (walk f n i x) → (j : ℕ) → j < n → T (f (i + j) (power m p (i + j)))
  walk_at f zero i x e t j h = absurd (not-suc-le-zero h)
  walk_at f (suc n) i zero e t j h = absurd t
  walk_at f (suc n) i (suc x) e t zero h = rw (add-zero, ← e) (and_l (f i (suc x)) (walk f n (suc i) (doubled m p (suc x))) t)
  walk_at f (suc n) i (suc x) e t (suc j) h =
      rw (add-suc, ← suc-add)
      (walk_at f n (suc i) (doubled m p (suc x)) (next i (suc x) e) (and_r (f i (suc x)) (walk f n (suc i) (doubled m p (suc x))) t) j (le_of_suc-le-suc h))
