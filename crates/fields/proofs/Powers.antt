-- A field in which 2 has the order 2^m - 1: each element but 0 is a power of 2, once, and has an exponent. Assumes nothing.
use mathlib.Core.Path.{◌≡◌, refl, sym, ap, ◌∙◌}
use Prim.Native.Nat.{ℕ, zero, suc, ◌+◌, ◌-◌, ◌*◌, ◌/◌, ◌%◌, ◌^◌, ◌≤◌, ◌<◌}
use native.Mathlib.Nat.{add-sub_of_le, div-add-mod', mul-le-mul_left, suc-mul}
use native.Mathlib.Decide.{dec_le}
use native.Mathlib.Omega.{arith}
use borrow.Author.Tests.{ne_eqb}
use lib.Dec.{eqb, eqb→eq, eqb_refl}
use Rattle.fields.specs.Elements.{times, power, exponent}
use Rattle.fields.proofs.Lists.{find_found, find_lt, find_none}
use Rattle.fields.proofs.Onto.{onto}
use Rattle.fields.proofs.Doubling.{two_le}
use Rattle.fields.proofs.Times as Times
use Rattle.fields.proofs.Cycle.{Cyclic}

module _ (m p : ℕ) (C : Cyclic m p) where
  pub power_lt : (i : ℕ) → power m p i < 2 ^ m
  power_lt = Times.power_lt m p C.degree C.positive

  pub power_sum_lem : (i j : ℕ) → times m p (power m p i) (power m p j) ≡ power m p (i + j)
  power_sum_lem = Times.power_sum_lem m p C.degree C.positive

  power_cycle : (i : ℕ) → power m p (i + (2 ^ m - 1)) ≡ power m p i
  power_cycle i = sym (power_sum_lem i (2 ^ m - 1)) ∙ ap (times m p (power m p i)) C.cycle ∙ Times.times_one m p C.degree C.positive (power m p i) (power_lt i)

  cycles : (c i : ℕ) → power m p (c * (2 ^ m - 1) + i) ≡ power m p i
  cycles zero i = ap (power m p) (omega arith)
  cycles (suc c) i = ap (power m p) (ap (λ (k : ℕ). k + i) (suc-mul c (2 ^ m - 1)) ∙ omega arith) ∙ power_cycle (c * (2 ^ m - 1) + i) ∙ cycles c i

  -- exponents count modulo 2^m - 1
  pub power_mod : (i : ℕ) → power m p (i % (2 ^ m - 1)) ≡ power m p i
  power_mod i = sym (cycles (i / (2 ^ m - 1)) (i % (2 ^ m - 1))) ∙ ap (power m p) (div-add-mod' i (2 ^ m - 1))

  -- what is multiplied up to the end of a cycle is not 0
  pub power_not_zero : (i : ℕ) → power m p i ≡ 0 → ⊥
  unfolding power
  power_not_zero i e =
      let k = i * (2 ^ m - 1) - i in
      let h : i * 1 ≤ i * (2 ^ m - 1) = mul-le-mul_left i (omega (arith, two_le m C.positive)) in
      let q : i + k ≡ i * (2 ^ m - 1) + 0 = omega arith in
      let one : times m p 0 (power m p k) ≡ 1 =
      ap (λ (x : ℕ). times m p x (power m p k)) (sym e) ∙ power_sum_lem i k ∙ ap (power m p) q ∙ cycles i 0 in
      let none : times m p 0 (power m p k) ≡ 0 = Times.zero_times m p (power m p k) in
      omega arith

  pub power_pos : (i : ℕ) → 0 < power m p i
  power_pos i = let h : power m p i ≡ 0 → ⊥ = power_not_zero i in omega arith

  once_from : (i j : ℕ) → i ≤ j → j < 2 ^ m - 1 → power m p i ≡ power m p j → i ≡ j
  once_from i j h hj e =
      let q : j - i + (2 ^ m - 1) ≡ j + (2 ^ m - 1 - i) = omega arith in
      let d : j - i ≡ 0 =
      C.order (j - i) (omega arith)
      (sym (power_cycle (j - i)) ∙ ap (power m p) q ∙ sym (power_sum_lem j (2 ^ m - 1 - i)) ∙ ap (λ (x : ℕ). times m p x (power m p (2 ^ m - 1 - i))) (sym e)
      ∙ power_sum_lem i (2 ^ m - 1 - i) ∙ ap (power m p) (add-sub_of_le (omega arith)) ∙ C.cycle) in
      omega arith

  -- below 2^m - 1, no two powers are the same
  once : (i j : ℕ) → i < 2 ^ m - 1 → j < 2 ^ m - 1 → power m p i ≡ power m p j → i ≡ j
  once i j hi hj e = go (dec_le i j)
    where
      go : Dec (i ≤ j) → i ≡ j
      go (yes h) = once_from i j h hj e
      go (no h) = sym (once_from j i (omega arith) hi (sym e))

  -- so they are all the elements but 0
  all : (x : ℕ) → 0 < x → x < 2 ^ m → (i : ℕ) × (i < 2 ^ m - 1) × (power m p i ≡ x)
  all x x0 hx =
      let r =
      onto (2 ^ m - 1) (λ i. power m p i - 1) (λ i h. omega (arith, power_lt i, power_pos i))
      (λ i j hi hj q. once i j hi hj (omega (arith, power_pos i, power_pos j))) (x - 1) (omega arith) in
      (r.0, r.1, omega (arith, r.2, power_pos r.0))

  -- exponents
  pub exponent_lt : (x : ℕ) → exponent m p x < 2 ^ m - 1
  unfolding exponent
  exponent_lt x = find_lt (λ i. eqb (power m p i) x) (2 ^ m - 1) (omega (arith, two_le m C.positive))

  has_exponent : (x i : ℕ) → i < 2 ^ m - 1 → power m p i ≡ x → power m p (exponent m p x) ≡ x
  unfolding exponent
  has_exponent x i h e =
      eqb→eq (power m p (exponent m p x)) x (find_found (λ i. eqb (power m p i) x) (2 ^ m - 1) i h (rw e (eqb_refl x))).1

  pub power_exponent : (x : ℕ) → 0 < x → x < 2 ^ m → power m p (exponent m p x) ≡ x
  power_exponent x x0 hx = let a = all x x0 hx in has_exponent x a.0 a.1 a.2

  pub exponent_power : (i : ℕ) → i < 2 ^ m - 1 → exponent m p (power m p i) ≡ i
  exponent_power i h = once (exponent m p (power m p i)) i (exponent_lt (power m p i)) h (has_exponent (power m p i) i h refl)

  pub exponent_zero : exponent m p 0 ≡ 0
  unfolding exponent
  exponent_zero = find_none (λ i. eqb (power m p i) 0) (2 ^ m - 1) (λ i h. ne_eqb (power m p i) 0 (power_not_zero i))
