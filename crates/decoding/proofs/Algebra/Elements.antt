-- The numbers below 2^m are a field of the abstract algebra. Assumes nothing.
use mathlib.Core.Path.{◌≡◌, sym, ap, ap₂, ◌∙◌}
use Prim.Native.Nat.{ℕ, suc, ◌-◌, ◌%◌, ◌^◌, ◌≤◌, ◌<◌}
use native.Mathlib.Nat.{mod-lt, mod-eq_of_lt}
use native.Mathlib.Decide.{ℕ_discrete}
use native.Mathlib.Numerals.{one-add}
use native.Mathlib.Omega.{arith}
use lib.Bits.{xor_mod}
use lib.Pow.{pow_pos, pow_mono}
use Rattle.fields.specs.Elements.{xor, times, power, exponent, inverse}
use Rattle.fields.specs.Field.{Field}
use Rattle.decoding.proofs.Algebra.Field.{Ops, Laws}

pub is_zero : (a : ℕ) → Dec (a ≡ 0)
is_zero a = ℕ_discrete a 0

module _ (m p : ℕ) where
  -- a product takes its operands below 2^m, so that the ring's laws ask for no bounds
  abbrev pub ops : Ops ℕ
  ops = record { ◌⊕◌ = xor; ◌⊙◌ = λ a b. times m p (a % 2 ^ m) (b % 2 ^ m); 𝟘 = 0; 𝟙 = 1; inv = inverse m p }

  low : (a : ℕ) → a % 2 ^ m < 2 ^ m
  low a = mod-lt a (pow_pos m)

  xor_low : (a b : ℕ) → xor a b % 2 ^ m ≡ xor (a % 2 ^ m) (b % 2 ^ m)
  unfolding xor
  xor_low a b = xor_mod a b m

  module _ (F : Field m p) where
    one_lt : 1 < 2 ^ m
    one_lt = let two : 2 ^ 1 ≤ 2 ^ m = pow_mono F.positive in omega arith

    one_times : (a : ℕ) → a < 2 ^ m → times m p (1 % 2 ^ m) a ≡ a
    one_times a h = rw (mod-eq_of_lt one_lt) (F.times_comm 1 a one_lt h ∙ F.times_one a h)

    product_low : (a b : ℕ) → times m p (a % 2 ^ m) b % 2 ^ m ≡ times m p (a % 2 ^ m) b
    product_low a b = mod-eq_of_lt (F.times_lt _ b (low a))

    pub laws : Laws ops (λ a. a < 2 ^ m)
    laws =
        record {
          add_comm = F.sum_comm;
          add_assoc = F.sum_assoc;
          add_self = F.sum_self;
          zero-add = λ a. F.sum_comm 0 a ∙ F.sum_zero a;
          mul_comm = λ a b. F.times_comm _ _ (low a) (low b);
          mul_assoc = λ a b c. rw (product_low a (b % 2 ^ m), product_low b (c % 2 ^ m)) (F.times_assoc _ _ _ (low a) (low b) (low c));
          mul-add = λ a b c. rw (xor_low b c) (F.times_sum _ _ _);
          mul_unit = λ a b. rw (one_times (b % 2 ^ m) (low b), mod-eq_of_lt (low b));
          in_zero = pow_pos m;
          in_one = one_lt;
          in_add = F.sum_lt;
          in_mul = λ a b. F.times_lt _ _ (low a);
          one-mul = λ a h. rw (mod-eq_of_lt h) (one_times a h);
          mul_inv = λ a h n. rw (mod-eq_of_lt h, mod-eq_of_lt (F.inverse_lt a)) (F.times_inverse a (omega arith) h);
          one_not_zero = λ e. omega arith;
        }

    -- the powers of 2: each is 2 times the one before, and they are distinct below 2^m - 1
    pub power_next : (i : ℕ) → power m p (suc i) ≡ times m p (power m p 1 % 2 ^ m) (power m p i % 2 ^ m)
    power_next i =
        sym (ap₂ (times m p) (mod-eq_of_lt (F.power_lt 1)) (mod-eq_of_lt (F.power_lt i)) ∙ F.power_sum_lem 1 i ∙ ap (power m p) (one-add i))

    pub powers_distinct : (i j : ℕ) → i < j → j < 2 ^ m - 1 → ¬ (power m p i ≡ power m p j)
    powers_distinct i j h l e =
        let q : i ≡ j = sym (F.exponent_power i (omega arith)) ∙ ap (exponent m p) e ∙ F.exponent_power j l in omega arith
