-- Laws of `xor`: it is associative, commutative, its own inverse, and works on halves and bits apart.
-- Assumes nothing.
use mathlib.Core.Path.{◌≡◌, refl, sym, ap, ◌∙◌}
use Prim.Native.Nat.{ℕ, zero, suc, ◌+◌, ◌*◌, ◌/◌, ◌%◌, ◌^◌, ◌<◌}
use native.Mathlib.Omega.{arith}
use lib.Arith.{bin_ind}
use lib.Bits as Bits
use Rattle.fields.specs.Elements.{xor}

pub xor_zero_l : (a : ℕ) → xor 0 a ≡ a
unfolding xor
xor_zero_l a = refl

pub xor_zero_r : (a : ℕ) → xor a 0 ≡ a
unfolding xor
xor_zero_r a = Bits.xor_zero_r a

pub xor_self : (a : ℕ) → xor a a ≡ 0
unfolding xor
xor_self a = Bits.xor_self a

pub xor_comm : (a b : ℕ) → xor a b ≡ xor b a
unfolding xor
xor_comm a b = Bits.xor_comm a b

pub xor_lt : (k a b : ℕ) → a < 2 ^ k → b < 2 ^ k → xor a b < 2 ^ k
unfolding xor
xor_lt k a b ha hb = Bits.xor_lt k a b ha hb

pub xor_high : (k a b : ℕ) → xor a b / 2 ^ k ≡ xor (a / 2 ^ k) (b / 2 ^ k)
unfolding xor
xor_high k a b = Bits.xor_shr a b k

pub xor_shifted : (a k b : ℕ) → b < 2 ^ k → xor (a * 2 ^ k) b ≡ a * 2 ^ k + b
unfolding xor
xor_shifted a k b h = Bits.xor_shifted a k b h

pub xor_half : (a b : ℕ) → xor a b / 2 ≡ xor (a / 2) (b / 2)
xor_half a b = xor_high 1 a b

pub xor_bit : (a b : ℕ) → xor a b % 2 ≡ xor (a % 2) (b % 2)
unfolding xor
xor_bit a b = Bits.xor_mod a b 1

-- two numbers are equal when their halves and their low bits are
by_half : (a b : ℕ) → a / 2 ≡ b / 2 → a % 2 ≡ b % 2 → a ≡ b
by_half a b h l = omega arith

bit_assoc : (x y z : ℕ) → x < 2 → y < 2 → z < 2 → xor (xor x y) z ≡ xor x (xor y z)
unfolding xor
bit_assoc zero y z hx hy hz = refl
bit_assoc (suc zero) zero z hx hy hz = refl
bit_assoc (suc zero) (suc zero) zero hx hy hz = refl
bit_assoc (suc zero) (suc zero) (suc zero) hx hy hz = refl
bit_assoc (suc zero) (suc zero) (suc (suc z)) hx hy hz = absurd (omega arith)
bit_assoc (suc zero) (suc (suc y)) z hx hy hz = absurd (omega arith)
bit_assoc (suc (suc x)) y z hx hy hz = absurd (omega arith)

pub xor_assoc : (a b c : ℕ) → xor (xor a b) c ≡ xor a (xor b c)
xor_assoc a =
    bin_ind (λ (n : ℕ). (b c : ℕ) → xor (xor n b) c ≡ xor n (xor b c)) (λ b c. simp xor_zero_l)
    (λ n ih b c. by_half _ _ (simp xor_half (ih (b / 2) (c / 2)))
    (simp xor_bit (bit_assoc (n % 2) (b % 2) (c % 2) (omega arith) (omega arith) (omega arith)))) a

xor_left_comm : (a b c : ℕ) → xor a (xor b c) ≡ xor b (xor a c)
xor_left_comm a b c = sym (xor_assoc a b c) ∙ ap (λ (x : ℕ). xor x c) (xor_comm a b) ∙ xor_assoc b a c

pub xor_cancel : (a b : ℕ) → xor a (xor a b) ≡ b
xor_cancel a b = sym (xor_assoc a a b) ∙ ap (λ (x : ℕ). xor x b) (xor_self a) ∙ xor_zero_l b

ruleset xor-sort = (xor_assoc, xor_comm, xor_left_comm)

-- a sum of sums, regrouped
pub xor_four : (a b c d : ℕ) → xor (xor a b) (xor c d) ≡ xor (xor a c) (xor b d)
xor_four a b c d = simp xor-sort

pub xor_double : (a b : ℕ) → 2 * xor a b ≡ xor (2 * a) (2 * b)
xor_double a b =
    by_half _ _ (rw (xor_half, twice a, twice b, twice (xor a b))) (rw (xor_bit, even a, even b, even (xor a b), xor_zero_l))
  where
    twice : (x : ℕ) → 2 * x / 2 ≡ x
    twice x = omega arith

    even : (x : ℕ) → 2 * x % 2 ≡ 0
    even x = omega arith

-- what respects sums takes 0 to 0
pub additive_zero : (f : ℕ → ℕ) → ((a b : ℕ) → f (xor a b) ≡ xor (f a) (f b)) → f 0 ≡ 0
additive_zero f h = ap f (sym (xor_self 0)) ∙ h 0 0 ∙ xor_self (f 0)
