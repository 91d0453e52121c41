-- A bit as a count. Assumes nothing.
use mathlib.Core.Path.{◌≡◌, refl}
use Prim.Native.Nat.{ℕ, zero, suc, ◌<◌}
use native.Mathlib.Omega.{arith}
use Rattle.fields.specs.Places.{differs}

-- a bit is 1 where it differs from 0
pub bit_is : (x : ℕ) → x < 2 → x ≡ differs x 0
unfolding differs
bit_is zero h = refl
bit_is (suc zero) h = refl
bit_is (suc (suc x)) h = absurd (omega arith)
