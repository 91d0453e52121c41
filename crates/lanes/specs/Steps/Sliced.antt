-- Bit-sliced elements: bit k of a number, the highest of 64 first, is that of inner word k, and eleven numbers (`Lanes`) are an element of each.
use Rattle.std.specs.Prelude.{List, [], ◌∷◌, ℕ, zero, suc, ◌+◌, ◌-◌, ◌*◌, ◌/◌, ◌%◌, ◌^◌}
use Rattle.std.specs.Int.Bits.{bit_or}
use Rattle.lanes.specs.declared.Lanes.{Lanes}

-- the numbers of a `Lanes`
abbrev pub cells : Lanes → List ℕ
cells s = s.0

-- the bit of inner word k in a number
unfoldable pub lane_bit : ℕ → ℕ → ℕ
lane_bit k x = x / 2 ^ (63 - k) % 2

-- the bit of inner word k where the first of eight bytes is the lowest, not the highest
unfoldable pub turned : ℕ → ℕ
turned k = 8 * (7 - k / 8) + k % 8

-- the number whose bits, the lowest first, are those of inner word k in some numbers
unfoldable pub lane : ℕ → List ℕ → ℕ
lane k [] = 0
lane k (x ∷ s) = lane_bit k x + 2 * lane k s

-- the element of inner word k
abbrev pub element : ℕ → Lanes → ℕ
element k x = lane k (cells x)

-- a bit is 1 where it is 1 in some of f 0, .. f (n - 1)
unfoldable pub or_to : ℕ → (ℕ → ℕ) → ℕ
or_to zero f = 0
or_to (suc n) f = bit_or (or_to n f) (f n)
