-- The syndromes of an inner word: its values at a^1 to a^16, computed from its remainder, are those of its places times their locators. Assumes nothing.
use mathlib.Core.Path.{◌≡◌, refl, sym, ap, ap₂, ◌∙◌}
use mathlib.Core.Bool.{Bool, true, false, ◌||◌, cond}
use mathlib.Core.List.{List}
use Prim.Native.Nat.{ℕ, zero, suc, ◌+◌, ◌-◌, ◌*◌, ◌^◌, ◌≤◌, ◌<◌}
use native.Mathlib.Decide.{ℕ_discrete}
use native.Mathlib.Nat.{mul-suc, one-mul, sub_self, zero-mul}
use native.Mathlib.Omega.{arith}
use borrow.Author.Tests.{eq-eqb, eqb-true, ne_eqb}
use lib.Dec.{eqb}
use lib.ListN.{length}
use Rattle.fields.specs.Elements.{xor, times, power, powers_b, exponents_b}
use Rattle.fields.specs.Field.{Field}
use Rattle.fields.specs.Steps.ByTables.{table_product, table_power}
use Rattle.fields.specs.Places.{at, horner, value, differs}
use Rattle.fields.proofs.ByTables.{table_power_lem}
use Rattle.fields.proofs.Instances.{field_b}
use Rattle.fields.proofs.Lists.{tabulate_at}
use Rattle.fields.proofs.Xor.{xor_comm, additive_zero}
use Rattle.decoding.specs.Steps.Decoder.{Tables, locator, xor_to, syndrome}
use Rattle.decoding.proofs.Algebra.Field.{mul_comm, mul-add, mul-zero}
use Rattle.decoding.proofs.Algebra.PowerSums.{power_sum}
use Rattle.decoding.proofs.Algebra.Values.{value_lt}
use Rattle.decoding.proofs.Algebra.Tables.{table_ops, table_laws, table_powers, exponents_length, syndrome_is, xor_to_same, tables_b}
use Rattle.decoding.proofs.Decoding.Changes.{value_syndrome}
use Rattle.words.specs.Bits.{bit_of}
use Rattle.words.specs.InnerCode.{power_b, divisor, remainder}
use Rattle.words.specs.Steps.InnerDecoding.{powers_value, odd_syndromes, Syndromes, is_bit}
use Rattle.words.proofs.Bits.Numbers.{bit_of_lt}
use Rattle.words.proofs.Codes.Horner.{Additive, iter, iter_sum, horner_front}
use Rattle.words.proofs.Codes.TableValues.{product_same, horner_by_tables}
use Rattle.words.proofs.Codes.Squares.{squares}
use Rattle.words.proofs.Codes.InnerWords.{by_doubling}
use Rattle.words.proofs.Codes.InnerRoots.{remainder_bits}

-- bits times locators
module _ (es ls : List ℕ) (T : Tables es ls) where
  pub times_none : (x : ℕ) → table_product es ls x 0 ≡ 0
  times_none = mul-zero (table_ops es ls) (table_laws es ls T)

  times_one : (x : ℕ) → x < length ls → table_product es ls x 1 ≡ x
  times_one x h = mul_comm (table_ops es ls) (table_laws es ls T) x 1 ∙ (table_laws es ls T).one-mul x h

  pub times_bit : (x d : ℕ) → x < length ls → d < 2 → is_bit (table_product es ls x d) x ≡ true
  unfolding is_bit
  times_bit x zero hx hd = rw (times_none x)
  times_bit x (suc zero) hx hd = rw (times_one x hx, eq-eqb x x refl) (or-true (eqb x 0))
    where
      or-true : (b : Bool) → (b || true) ≡ true
      or-true true = refl
      or-true false = refl
  times_bit x (suc (suc d)) hx hd = absurd (omega arith)

  pub times_differs : (x d : ℕ) → x < length ls → (x ≡ 0 → ⊥) → d < 2 → differs (table_product es ls x d) 0 ≡ differs d 0
  unfolding differs
  times_differs x zero hx nx hd = rw (times_none x)
  times_differs x (suc zero) hx nx hd = rw (times_one x hx, ne_eqb x 0 nx)
  times_differs x (suc (suc d)) hx nx hd = absurd (omega arith)

  pub bit_times : (v x : ℕ) → x < length ls → is_bit v x ≡ true → v ≡ table_product es ls x (differs v 0)
  unfolding is_bit differs
  bit_times v x hx t = go (ℕ_discrete v 0)
    where
      go : Dec (v ≡ 0) → v ≡ table_product es ls x (cond (eqb v 0) 0 1)
      go (yes z) = rw (eq-eqb v 0 z) (z ∙ sym (times_none x))
      go (no n) = rw (ne_eqb v 0 n) (eqb-true v x (rw (ne_eqb v 0 n) at t) ∙ sym (times_one x hx))

  -- the syndromes from the next on are those of the errors times their locators
  syndrome_next : (n : ℕ) (e : ℕ → ℕ) (j : ℕ) → syndrome es ls n e (suc j) ≡ syndrome es ls n (λ i. table_product es ls (locator es n i) (e i)) j
  unfolding power_sum
  syndrome_next n e j = syndrome_is es ls T n e (suc j) ∙ sym (syndrome_is es ls T n (λ i. table_product es ls (locator es n i) (e i)) j)

log_length : length exponents_b ≡ 2048
log_length = exponents_length 11 2053 field_b

-- the locator of a place, and its product by what stands there
pub locator_lt : (i : ℕ) → locator powers_b 2040 i < length exponents_b
unfolding locator
locator_lt i = (table_powers powers_b exponents_b tables_b).inside _

pub locator_not : (i : ℕ) → locator powers_b 2040 i ≡ 0 → ⊥
unfolding locator
locator_not i = (table_powers powers_b exponents_b tables_b).nonzero _

unfoldable pub located : (ℕ → ℕ) → ℕ → ℕ
located b i = table_product powers_b exponents_b (locator powers_b 2040 i) (b i)

pub located_lt : (b : ℕ → ℕ) (i : ℕ) → located b i < length exponents_b
unfolding located
located_lt b i = (table_laws powers_b exponents_b tables_b).in_mul _ _

pub located_add : (b c : ℕ → ℕ) (i : ℕ) → located (λ i. xor (b i) (c i)) i ≡ xor (located b i) (located c i)
unfolding located
located_add b c i = mul-add (table_ops powers_b exponents_b) (table_laws powers_b exponents_b tables_b) _ (b i) (c i)

pub located_same : (b c : ℕ → ℕ) (i : ℕ) → b i ≡ c i → located b i ≡ located c i
unfolding located
located_same b c i e = ap (table_product powers_b exponents_b (locator powers_b 2040 i)) e

table_value_b : (e : ℕ) (b : ℕ → ℕ) → ((i : ℕ) → b i < 2) → (n : ℕ) → horner (λ v. table_product powers_b exponents_b v (table_power powers_b e)) b n ≡ value 11 2053 (power_b e) b n
table_value_b e b bits n =
    rw (table_power_lem 11 2053 field_b e) (horner_by_tables 11 2053 field_b (power_b e) (field_b.power_lt e) b (λ i. omega (arith, bits i)) n)

-- the value of a binary word at a^(j+1) is the j-th syndrome of its places times their locators
pub value_located : (b : ℕ → ℕ) → ((i : ℕ) → b i < 2) → (j : ℕ) → value 11 2053 (power_b (suc j)) b 2040 ≡ syndrome powers_b exponents_b 2040 (located b) j
unfolding located
value_located b bits j =
    sym (table_value_b (suc j) b bits 2040)
    ∙ value_syndrome powers_b exponents_b 2040 tables_b b (λ i. rw log_length (omega (arith, bits i))) (suc j) ∙ syndrome_next powers_b exponents_b tables_b 2040 b j

-- the value of a binary word at a^e: the sum of a^(e i) over its symbols that are 1, the last of them with i = 0
module _ (m p : ℕ) (F : Field m p) (e : ℕ) where
  abbrev step : ℕ → ℕ
  step v = times m p v (power m p e)

  step_sum : Additive step
  step_sum x y = F.sum_times x y (power m p e)

  steps_one : (n : ℕ) → iter step n 1 ≡ power m p (e * n)
  unfolding iter power
  steps_one zero = let q : e * 0 ≡ 0 = omega arith in rw q
  steps_one (suc n) = rw (mul-suc, steps_one n) (F.power_sum_lem (e * n) e)

  steps_bit : (n t : ℕ) → t < 2 → iter step n t ≡ t * power m p (e * n)
  steps_bit n zero h = rw zero-mul (additive_zero (iter step n) (iter_sum step step_sum n))
  steps_bit n (suc zero) h = rw one-mul (steps_one n)
  steps_bit n (suc (suc t)) h = absurd (omega arith)

  pub value_powers : (b : ℕ → ℕ) → ((i : ℕ) → b i < 2) → (n : ℕ) → value m p (power m p e) b n ≡ xor_to n (λ i. b (n - suc i) * power m p (e * i))
  unfolding horner xor_to
  value_powers b bits zero = refl
  value_powers b bits (suc n) =
      horner_front step step_sum b n ∙ xor_comm _ _
      ∙ ap₂ xor (value_powers (λ i. b (suc i)) (λ i. bits (suc i)) n ∙ xor_to_same n _ _ shifted) (rw (sub_self (suc n)) (steps_bit n (b 0) (bits 0)))
    where
      shifted : (i : ℕ) → i < n → b (suc (n - suc i)) * power m p (e * i) ≡ b (suc n - suc i) * power m p (e * i)
      shifted i l = let q : suc (n - suc i) ≡ suc n - suc i = omega arith in rw q

pub odd_syndrome_b : (r j : ℕ) → j < 8 → at (odd_syndromes powers_b r) j ≡ value 11 2053 (power_b (2 * j + 1)) (bit_of 88 r) 88
unfolding odd_syndromes powers_value
odd_syndrome_b r j h = tabulate_at 8 _ j 0 h ∙ xor_to_same 88 _ _ same ∙ sym (value_powers 11 2053 field_b e (bit_of 88 r) (bit_of_lt 88 r) 88)
  where
    e : ℕ
    e = 2 * j + 1

    same : (i : ℕ) → i < 88 → bit_of 88 r (87 - i) * table_power powers_b (e * i) ≡ bit_of 88 r (88 - suc i) * power_b (e * i)
    same i l = let q : 87 - i ≡ 88 - suc i = omega arith in rw (q, table_power_lem 11 2053 field_b (e * i))

-- the values computed from the remainder are those of the word
module _ (b : ℕ → ℕ) (bits : (i : ℕ) → b i < 2) (t : List ℕ) (S : Syndromes powers_b exponents_b (odd_syndromes powers_b (remainder 88 divisor b 2040)) 8 t) where
  abbrev Known : ℕ → Type 0
  Known e = at t (e - 1) ≡ value 11 2053 (power_b e) b 2040

  known_odd : (j : ℕ) → j < 8 → Known (2 * j + 1)
  known_odd j h =
      let q : 2 * j + 1 - 1 ≡ 2 * j = omega arith in
      rw q (S.odd j h ∙ odd_syndrome_b (remainder 88 divisor b 2040) j h ∙ remainder_bits b bits 2040 j h)

  known_twice : (e : ℕ) → 0 < e → e ≤ 8 → Known e → Known (e + e)
  known_twice e h l k =
      let q : e + e - 1 ≡ 2 * (e - 1) + 1 = omega arith in
      let v = value 11 2053 (power_b e) b 2040 in
      let hv : v < 2 ^ 11 = value_lt 11 2053 field_b (power_b e) b (λ i. omega (arith, bits i)) 2040 in
      rw q (S.even (e - 1) (omega arith) ∙ ap₂ (table_product powers_b exponents_b) k k ∙ product_same 11 2053 field_b v v hv hv
      ∙ sym (squares 11 2053 field_b (power_b e) (field_b.power_lt e) b bits 2040) ∙ ap (λ (x : ℕ). value 11 2053 x b 2040) (field_b.power_sum_lem e e))

  pub syndromes_are : (j : ℕ) → j < 16 → at t j ≡ syndrome powers_b exponents_b 2040 (located b) j
  syndromes_are j h =
      let q : suc j - 1 ≡ j = omega arith in
      rw q at (by_doubling Known known_odd known_twice (suc j) (omega arith) (omega arith)) ∙ value_located b bits j
