-- A field that is lent as its two tables is a field of the abstract algebra; locators, syndromes and values in its terms. Assumes nothing.
use mathlib.Core.Path.{◌≡◌, refl, sym, ap, ap₂, ◌∙◌, fun_ext, subst}
use mathlib.Core.List.{List}
use Prim.Native.Nat.{ℕ, zero, suc, ◌+◌, ◌-◌, ◌%◌, ◌^◌, ◌<◌}
use native.Mathlib.Nat.{le_refl, mod-eq_of_lt, zero-add, suc-add}
use native.Mathlib.Omega.{arith}
use lib.ListN.{length}
use Rattle.fields.specs.Elements.{xor, times, power, exponent, powers, exponents, powers_b, exponents_b}
use Rattle.fields.specs.Field.{Field}
use Rattle.fields.specs.Steps.ByTables.{table_product, table_inverse, table_power, FieldTables}
use Rattle.fields.specs.Places.{at, horner}
use Rattle.fields.proofs.ByTables.{table_power_lem, table_product_lem, table_inverse_lem}
use Rattle.fields.proofs.Lists.{tabulate_length, tabulate_at}
use Rattle.fields.proofs.Instances.{field_tables_b}
use Rattle.decoding.specs.Steps.ByTables.{table_value}
use Rattle.decoding.specs.Steps.Decoder.{Tables, locator, xor_to, times_power, syndrome}
use Rattle.decoding.specs.Steps.Annihilator.{applied}
use Rattle.decoding.proofs.Algebra.Field.{Ops, Laws, upto, mul-zero}
use Rattle.decoding.proofs.Algebra.PowerSums.{sum, power_sum, value_at}
use Rattle.decoding.proofs.Algebra.Locators.{applied_to}
use Rattle.decoding.proofs.Algebra.Elements.{laws, power_next, powers_distinct}

abbrev pub table_ops : List ℕ → List ℕ → Ops ℕ
table_ops es ls = record { ◌⊕◌ = xor; ◌⊙◌ = table_product es ls; 𝟘 = 0; 𝟙 = 1; inv = table_inverse es ls }

-- what is used of the powers of a: X i is a^i, for i below the length n all distinct
pub record Powers (es ls : List ℕ) : Type 0 where
  pub first : table_power es 0 ≡ 1
  pub next : (i : ℕ) → table_power es (suc i) ≡ table_product es ls (table_power es 1) (table_power es i)
  pub inside : (i : ℕ) → table_power es i < length ls
  pub nonzero : (i : ℕ) → ¬ (table_power es i ≡ 0)
  pub distinct : (i j : ℕ) → i < j → j < length es → ¬ (table_power es i ≡ table_power es j)

module _ (m p : ℕ) (F : Field m p) where
  product_is : table_product (powers m p) (exponents m p) ≡ (λ (a b : ℕ). times m p (a % 2 ^ m) (b % 2 ^ m))
  product_is = fun_ext (λ a. fun_ext (λ b. table_product_lem m p F a b))

  pub powers_length : length (powers m p) ≡ 2 ^ m - 1
  unfolding powers
  powers_length = tabulate_length (2 ^ m - 1) (power m p)

  pub exponents_length : length (exponents m p) ≡ 2 ^ m
  unfolding exponents
  exponents_length = tabulate_length (2 ^ m) (exponent m p)

  powers_at : (i : ℕ) → i < 2 ^ m - 1 → at (powers m p) i ≡ power m p i
  unfolding powers
  powers_at i h = tabulate_at (2 ^ m - 1) (power m p) i 0 h

  exponents_at : (x : ℕ) → x < 2 ^ m → at (exponents m p) x ≡ exponent m p x
  unfolding exponents
  exponents_at x h = tabulate_at (2 ^ m) (exponent m p) x 0 h

  own_exponent : (x : ℕ) → ¬ (x ≡ 0) → x < length (exponents m p) →
      (at (exponents m p) x < length (powers m p)) × (at (powers m p) (at (exponents m p) x) ≡ x)
  own_exponent x n h =
      let small : x < 2 ^ m = rw exponents_length at h in
      rw (exponents_at x small, powers_length, powers_at (exponent m p x) (F.exponent_lt x)) (F.exponent_lt x, F.power_exponent x (omega arith) small)

  own_laws : Laws (table_ops (powers m p) (exponents m p)) (λ a. a < 2 ^ m)
  own_laws =
      let K = laws m p F in
      subst (λ (f : ℕ → ℕ → ℕ). Laws (record { ◌⊕◌ = xor; ◌⊙◌ = f; 𝟘 = 0; 𝟙 = 1; inv = table_inverse (powers m p) (exponents m p) }) (λ a. a < 2 ^ m)) (sym product_is)
      (record {
        add_comm = K.add_comm;
        add_assoc = K.add_assoc;
        add_self = K.add_self;
        zero-add = K.zero-add;
        mul_comm = K.mul_comm;
        mul_assoc = K.mul_assoc;
        mul-add = K.mul-add;
        mul_unit = K.mul_unit;
        in_zero = K.in_zero;
        in_one = K.in_one;
        in_add = K.in_add;
        in_mul = K.in_mul;
        one-mul = K.one-mul;
        mul_inv = λ a h n. rw (table_inverse_lem m p F a, mod-eq_of_lt h) (rw (mod-eq_of_lt h) at (K.mul_inv a h n));
        one_not_zero = K.one_not_zero;
      })

  own_powers : Powers (powers m p) (exponents m p)
  unfolding power
  own_powers =
      record {
        first = table_power_lem m p F 0;
        next = λ i. table_power_lem m p F (suc i) ∙ power_next m p F i ∙ sym (table_product_lem m p F _ _ ∙ ap₂ (λ (a b : ℕ). times m p (a % 2 ^ m) (b % 2 ^ m)) (table_power_lem m p F 1) (table_power_lem m p F i));
        inside = λ i. rw (exponents_length, table_power_lem m p F i) (F.power_lt i);
        nonzero = λ i e. omega (arith, F.power_pos i, table_power_lem m p F i);
        distinct = λ i j h l e. powers_distinct m p F i j h (rw powers_length at l) (sym (table_power_lem m p F i) ∙ e ∙ table_power_lem m p F j);
      }

module _ (es ls : List ℕ) (T : Tables es ls) where
  pub table_laws : Laws (table_ops es ls) (λ a. a < length ls)
  table_laws =
      let m = T.0 in
      let p = T.1 in
      let L : FieldTables m p es ls = T.2 in
      rw (L.exp, L.log, exponents_length m p L.field) (own_laws m p L.field)

  pub table_powers : Powers es ls
  table_powers =
      let m = T.0 in
      let p = T.1 in
      let L : FieldTables m p es ls = T.2 in
      rw (L.exp, L.log) (own_powers m p L.field)

  -- the exponent of an element but 0, and the element back
  pub table_exponent : (x : ℕ) → ¬ (x ≡ 0) → x < length ls → (at ls x < length es) × (at es (at ls x) ≡ x)
  table_exponent =
      let m = T.0 in
      let p = T.1 in
      let L : FieldTables m p es ls = T.2 in
      rw (L.exp, L.log) (own_exponent m p L.field)

  -- powers multiply by adding exponents
  pub table_power_sum : (i j : ℕ) → table_power es (i + j) ≡ table_product es ls (table_power es i) (table_power es j)
  table_power_sum zero j = rw (zero-add, table_powers.first) (sym (table_laws.one-mul _ (table_powers.inside j)))
  table_power_sum (suc i) j =
      rw (suc-add, table_powers.next (i + j), table_power_sum i j, table_powers.next i) (sym (table_laws.mul_assoc _ _ _))

  pub table_power_at : (i : ℕ) → i < length es → at es i ≡ table_power es i
  unfolding table_power
  table_power_at i h = rw (mod-eq_of_lt h)

pub xor_to_same : (n : ℕ) (f g : ℕ → ℕ) → ((i : ℕ) → i < n → f i ≡ g i) → xor_to n f ≡ xor_to n g
unfolding xor_to
xor_to_same zero f g h = refl
xor_to_same (suc n) f g h = ap₂ xor (xor_to_same n f g (λ i l. h i (omega arith))) (h n (le_refl (suc n)))

-- values and syndromes are those of the abstract algebra
module _ (es ls : List ℕ) where
  pub table_value_lem : (x : ℕ) (b : ℕ → ℕ) (n : ℕ) → horner (λ v. table_product es ls v x) b n ≡ value_at (table_ops es ls) x b n
  unfolding horner value_at
  table_value_lem x b zero = refl
  table_value_lem x b (suc n) = ap (λ (v : ℕ). xor (table_product es ls v x) (b n)) (table_value_lem x b n)

  pub table_value_is : (w : List ℕ) (x n : ℕ) → length w ≡ n → table_value es ls w x ≡ value_at (table_ops es ls) x (at w) n
  unfolding table_value
  table_value_is w x n long = table_value_lem x (at w) (length w) ∙ ap (value_at (table_ops es ls) x (at w)) long

  pub table_applied : (b s : ℕ → ℕ) (n : ℕ) → applied (table_product es ls) b n s ≡ applied_to (table_ops es ls) b n s
  unfolding applied applied_to
  table_applied b s zero = refl
  table_applied b s (suc n) = ap (λ (v : ℕ). xor v (table_product es ls (b n) (s 0))) (table_applied b (λ k. s (suc k)) n)

  pub times_power_in : (x c j : ℕ) → times_power (table_product es ls) x (table_product es ls x c) j ≡ table_product es ls x (times_power (table_product es ls) x c j)
  unfolding times_power
  times_power_in x c zero = refl
  times_power_in x c (suc j) = ap (table_product es ls x) (times_power_in x c j)

  pub times_power_zero : Tables es ls → (x j : ℕ) → times_power (table_product es ls) x 0 j ≡ 0
  unfolding times_power
  times_power_zero T x zero = refl
  times_power_zero T x (suc j) = ap (table_product es ls x) (times_power_zero T x j) ∙ mul-zero (table_ops es ls) (table_laws es ls T) x

  pub power_sum_terms : {I : Type 0} (X e : I → ℕ) (ps : List I) (j : ℕ) → power_sum (table_ops es ls) X e ps j ≡ sum (table_ops es ls) (λ i. times_power (table_product es ls) (X i) (e i) j) ps
  unfolding power_sum times_power
  power_sum_terms X e ps zero = refl
  power_sum_terms X e ps (suc j) =
      power_sum_terms X (λ i. table_product es ls (X i) (e i)) ps j ∙ ap (λ f. sum (table_ops es ls) f ps) (fun_ext (λ i. times_power_in (X i) (e i) j))

  pub xor_to_sum : Tables es ls → (f : ℕ → ℕ) (n : ℕ) → xor_to n f ≡ sum (table_ops es ls) f (upto n)
  unfolding xor_to sum upto
  xor_to_sum T f zero = refl
  xor_to_sum T f (suc n) = ap (λ (v : ℕ). xor v (f n)) (xor_to_sum T f n) ∙ (table_laws es ls T).add_comm _ (f n)

  pub syndrome_is : Tables es ls → (n : ℕ) (e : ℕ → ℕ) (j : ℕ) → syndrome es ls n e j ≡ power_sum (table_ops es ls) (locator es n) e (upto n) j
  unfolding syndrome
  syndrome_is T n e j = xor_to_sum T _ n ∙ sym (power_sum_terms (locator es n) e (upto n) j)

pub tables_b : Tables powers_b exponents_b
tables_b = (11, 2053, field_tables_b)
