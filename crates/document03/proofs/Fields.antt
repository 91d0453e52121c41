-- Document 03 on fields: its definitions as it writes them, that they agree with ours on elements, and its statement `Fields`.
-- Assumes nothing.
use mathlib.Core.Path.{◌≡◌, refl, sym, ap, ap₂, ◌∙◌}
use mathlib.Core.Bool.{Bool, true, false, not, ◌||◌}
use mathlib.Core.List.{List, [], ◌∷◌}
use Prim.Native.Nat.{ℕ, zero, suc, ◌+◌, ◌-◌, ◌*◌, ◌/◌, ◌%◌, ◌^◌, ◌≤◌, ◌<◌}
use native.Mathlib.Nat.{le_of_suc-le-suc, not-suc-le-zero, add-zero, add-suc, suc-add, zero-add}
use native.Mathlib.Omega.{arith}
use borrow.Author.Tests.{eq-eqb, eqb-false}
use lib.Arith.{lt-one}
use lib.Bits as Bits
use lib.Dec.{T, eqb, ltb, eqb→eq, ltb→lt, nltb→le, lit<}
use lib.ListN.{length, get_or}
use lib.Pow.{pow_pos, pow_mono}
use Rattle.fields.specs.Elements.{scale, power, exponent}
use Rattle.fields.specs.Elements as E
use Rattle.fields.specs.Field.{Field}
use Rattle.fields.proofs.Xor.{xor_zero_l, xor_half, additive_zero}
use Rattle.fields.proofs.Doubling.{scale_lt, doubled_lt, doubled_below, doubled_above}
use Rattle.fields.proofs.Times.{times_from_sum, times_from_lt}
use Rattle.fields.proofs.Instances.{field_a, field_b}

abbrev pub pick : {A : Type 0} → Bool → A → A → A
pick true a b = a
pick false a b = b

abbrev pub xor_from : ℕ → ℕ → ℕ → ℕ
xor_from zero a b = 0
xor_from (suc n) a b = elim (eqb (a + b) 0) [ true ↦ 0 | false ↦ (a + b) % 2 + 2 * xor_from n (a / 2) (b / 2) ]

abbrev pub xor : ℕ → ℕ → ℕ
xor a b = xor_from 12 a b

abbrev pub doubled : ℕ → ℕ → ℕ → ℕ
doubled q p a = pick (ltb (2 * a) q) (2 * a) (xor (2 * a) p)

abbrev pub times_from : ℕ → ℕ → ℕ → ℕ → ℕ → ℕ
times_from zero q p a b = 0
times_from (suc n) q p a b = elim (eqb b 0) [ true ↦ 0 | false ↦ xor (pick (eqb (b % 2) 1) a 0) (times_from n q p (doubled q p a) (b / 2)) ]

abbrev pub times_a : ℕ → ℕ → ℕ
times_a a b = times_from 10 1024 1033 a b

abbrev pub times_b : ℕ → ℕ → ℕ
times_b a b = times_from 11 2048 2053 a b

unfoldable pub powers_from : ℕ → ℕ → ℕ → ℕ → List ℕ
powers_from zero q p x = []
powers_from (suc n) q p x = x ∷ powers_from n q p (doubled q p x)

unfoldable pub powers_a : List ℕ
powers_a = powers_from 1023 1024 1033 1

unfoldable pub powers_b : List ℕ
powers_b = powers_from 2047 2048 2053 1

abbrev pub pow_a : ℕ → ℕ
pow_a i = get_or powers_a i 0

abbrev pub pow_b : ℕ → ℕ
pow_b i = get_or powers_b i 0

abbrev pub is_in : ℕ → List ℕ → Bool
is_in x [] = false
is_in x (y ∷ ys) = eqb x y || is_in x ys

pub record Fields : Type 0 where
  pub all_of_a : (x : ℕ) → x < 1024 → eqb x 0 ≡ false → is_in x powers_a ≡ true
  pub all_of_b : (x : ℕ) → x < 2048 → eqb x 0 ≡ false → is_in x powers_b ≡ true

-- sums
xor_parity : (a b : ℕ) → E.xor a b % 2 ≡ (a + b) % 2
unfolding E.xor
xor_parity a b = let e : Bits.bit_xor a b + Bits.bit_and a b * 2 ≡ a + b = Bits.xor_add_and a b in omega arith

xor_case : (t : Bool) (a b r : ℕ) → (T t → a + b ≡ 0) → r ≡ E.xor a b / 2
    → (elim t as (λ x. ℕ) [ true ↦ 0 | false ↦ (a + b) % 2 + 2 * r ]) ≡ E.xor a b
xor_case true a b r h e =
    let x : a ≡ 0 = omega (arith, h tt) in
    let y : b ≡ 0 = omega (arith, h tt) in
    sym (ap₂ E.xor x y ∙ xor_zero_l 0)
xor_case false a b r h e = omega (arith, e, xor_parity a b)

xor_from_lem : (n a b : ℕ) → a < 2 ^ n → b < 2 ^ n → xor_from n a b ≡ E.xor a b
xor_from_lem zero a b ha hb = sym (ap₂ E.xor (lt-one ha) (lt-one hb) ∙ xor_zero_l 0)
xor_from_lem (suc n) a b ha hb =
    xor_case (eqb (a + b) 0) a b (xor_from n (a / 2) (b / 2)) (eqb→eq (a + b) 0)
    (xor_from_lem n (a / 2) (b / 2) (omega arith) (omega arith) ∙ sym (xor_half a b))

pub xor_agrees : (a b : ℕ) → a < 4096 → b < 4096 → xor a b ≡ E.xor a b
xor_agrees a b ha hb = xor_from_lem 12 a b ha hb

pick_scale : (t a : ℕ) → t < 2 → pick (eqb t 1) a 0 ≡ scale t a
unfolding scale
pick_scale zero a h = refl
pick_scale (suc zero) a h = refl
pick_scale (suc (suc t)) a h = absurd (omega arith)

-- an entry of a list is in it
in_case : (t b : Bool) → b ≡ true → (t || b) ≡ true
in_case true b e = refl
in_case false b e = e

is_in_lem : (xs : List ℕ) (i x : ℕ) → i < length xs → get_or xs i 0 ≡ x → is_in x xs ≡ true
is_in_lem [] i x h e = absurd (not-suc-le-zero h)
is_in_lem (y ∷ ys) zero x h e = rw (eq-eqb x y (sym e))
is_in_lem (y ∷ ys) (suc i) x h e = in_case (eqb x y) (is_in x ys) (is_in_lem ys i x (le_of_suc-le-suc h) e)

module _ (m p : ℕ) (F : Field m p) (small : m < 12) (p-small : p < 4096) where
  q_small : 2 ^ m ≤ 2048
  q_small = pow_mono (le_of_suc-le-suc small)

  doubled_case : (t : Bool) (a : ℕ) → a < 2 ^ m → (T t → 2 * a < 2 ^ m) → (T (not t) → 2 ^ m ≤ 2 * a) → pick t (2 * a) (xor (2 * a) p) ≡ E.doubled m p a
  doubled_case true a h l g = sym (doubled_below m p a (l tt))
  doubled_case false a h l g = xor_agrees (2 * a) p (omega (arith, q_small)) p-small ∙ sym (doubled_above m p a h (g tt))

  pub doubled_agrees : (a : ℕ) → a < 2 ^ m → doubled (2 ^ m) p a ≡ E.doubled m p a
  doubled_agrees a h = doubled_case (ltb (2 * a) (2 ^ m)) a h (ltb→lt (2 * a) (2 ^ m)) (nltb→le (2 * a) (2 ^ m))

  times_case : (t : Bool) (n a b r : ℕ) → a < 2 ^ m → (T t → b ≡ 0) → r ≡ E.times_from m p n (E.doubled m p a) (b / 2)
      → (elim t as (λ x. ℕ) [ true ↦ 0 | false ↦ xor (pick (eqb (b % 2) 1) a 0) r ]) ≡ E.times_from m p (suc n) a b
  unfolding E.times_from
  times_case true n a b r h z e = sym (ap (E.times_from m p (suc n) a) (z tt) ∙ additive_zero (E.times_from m p (suc n) a) (times_from_sum m p (suc n) a))
  times_case false n a b r h z e =
      let l : pick (eqb (b % 2) 1) a 0 ≡ scale (b % 2) a = pick_scale (b % 2) a (omega arith) in
      let u : scale (b % 2) a < 2 ^ m = scale_lt (b % 2) a (2 ^ m) (pow_pos m) h in
      let v : E.times_from m p n (E.doubled m p a) (b / 2) < 2 ^ m = times_from_lt m p F.degree n _ _ (doubled_lt m p F.degree a h) in
      ap₂ xor l e ∙ xor_agrees _ _ (omega (arith, q_small)) (omega (arith, q_small))

  pub times_from_agrees : (n a b : ℕ) → a < 2 ^ m → times_from n (2 ^ m) p a b ≡ E.times_from m p n a b
  unfolding E.times_from
  times_from_agrees zero a b h = refl
  times_from_agrees (suc n) a b h =
      times_case (eqb b 0) n a b _ h (eqb→eq b 0)
      (times_from_agrees n _ _ (rw (doubled_agrees a h) (doubled_lt m p F.degree a h)) ∙ ap (λ (x : ℕ). E.times_from m p n x (b / 2)) (doubled_agrees a h))

  powers_length : (n x : ℕ) → length (powers_from n (2 ^ m) p x) ≡ n
  unfolding powers_from
  powers_length zero x = refl
  powers_length (suc n) x = ap suc (powers_length n (doubled (2 ^ m) p x))

  powers_from_lem : (n k x i : ℕ) → x ≡ power m p k → i < n → get_or (powers_from n (2 ^ m) p x) i 0 ≡ power m p (k + i)
  unfolding powers_from power
  powers_from_lem zero k x i e h = absurd (not-suc-le-zero h)
  powers_from_lem (suc n) k x zero e h = e ∙ ap (power m p) (sym (add-zero k))
  powers_from_lem (suc n) k x (suc i) e h =
      powers_from_lem n (suc k) (doubled (2 ^ m) p x) i (ap (doubled (2 ^ m) p) e ∙ doubled_agrees (power m p k) (F.power_lt k)) (le_of_suc-le-suc h)
      ∙ ap (power m p) (suc-add k i ∙ sym (add-suc k i))

  pub powers_agree : (i : ℕ) → i < 2 ^ m - 1 → get_or (powers_from (2 ^ m - 1) (2 ^ m) p 1) i 0 ≡ power m p i
  unfolding power
  powers_agree i h = powers_from_lem (2 ^ m - 1) 0 1 i refl h ∙ ap (power m p) (zero-add i)

  all_in : (x : ℕ) → x < 2 ^ m → eqb x 0 ≡ false → is_in x (powers_from (2 ^ m - 1) (2 ^ m) p 1) ≡ true
  all_in x h z =
      let ne : x ≡ 0 → ⊥ = eqb-false x 0 z in
      is_in_lem (powers_from (2 ^ m - 1) (2 ^ m) p 1) (exponent m p x) x (rw (powers_length (2 ^ m - 1) 1) (F.exponent_lt x))
      (powers_agree (exponent m p x) (F.exponent_lt x) ∙ F.power_exponent x (omega arith) h)

pub times_a_agrees : (a b : ℕ) → a < 1024 → times_a a b ≡ E.times_a a b
unfolding E.times
times_a_agrees a b h = times_from_agrees 10 1033 field_a (lit< tt) (lit< tt) 10 a b h

pub times_b_agrees : (a b : ℕ) → a < 2048 → times_b a b ≡ E.times_b a b
unfolding E.times
times_b_agrees a b h = times_from_agrees 11 2053 field_b (lit< tt) (lit< tt) 11 a b h

pub pow_a_agrees : (i : ℕ) → i < 1023 → pow_a i ≡ power 10 1033 i
unfolding powers_a
pow_a_agrees i h = powers_agree 10 1033 field_a (lit< tt) (lit< tt) i h

pub pow_b_agrees : (i : ℕ) → i < 2047 → pow_b i ≡ power 11 2053 i
unfolding powers_b
pow_b_agrees i h = powers_agree 11 2053 field_b (lit< tt) (lit< tt) i h

pub fields : Fields
unfolding powers_a powers_b
fields =
    record {
      all_of_a = all_in 10 1033 field_a (lit< tt) (lit< tt);
      all_of_b = all_in 11 2053 field_b (lit< tt) (lit< tt);
    }
