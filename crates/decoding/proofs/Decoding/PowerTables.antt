-- The tables of powers give the values of a polynomial at the locators of a word: a block whose sums are not its last coefficient has no root. Assumes nothing.
use mathlib.Core.Path.{◌≡◌, refl, sym, ap, ap₂, ◌∙◌}
use mathlib.Core.List.{List}
use Prim.Native.Nat.{ℕ, zero, suc, ◌+◌, ◌-◌, ◌*◌, ◌/◌, ◌%◌, ◌≤◌, ◌<◌}
use native.Mathlib.Decide.{dec_lt}
use native.Mathlib.Nat.{add_comm, add_assoc, add-mul-mod_self_left, div-add-mod', le_refl, mod-lt, mul-suc, mul-zero, not-suc-le-zero, zero-add}
use native.Mathlib.Numerals.{add-one}
use native.Mathlib.Omega.{arith}
use borrow.Author.Tests.{eq-eqb, ne_eqb}
use lib.Dec.{lit<}
use lib.ListN.{length}
use Rattle.fields.specs.Elements.{xor}
use Rattle.fields.specs.Steps.ByTables.{table_product, table_power}
use Rattle.fields.specs.Places.{at}
use Rattle.fields.proofs.Lists.{tabulate_at}
use Rattle.fields.proofs.Xor.{xor_assoc, xor_zero_l}
use Rattle.decoding.specs.Steps.ByTables.{table_value}
use Rattle.decoding.specs.Steps.Decoder.{Tables, locator, times_power, xor_to}
use Rattle.decoding.specs.Steps.PowerTables.{reciprocals, table_base, table_start, table_bases, table_starts, table_position, four_at, eight_at, tables_sum, TablesFor}
use Rattle.decoding.proofs.Algebra.Field as F
use Rattle.decoding.proofs.Algebra.Field.{Ops, Laws}
use Rattle.decoding.proofs.Algebra.Elements.{is_zero}
use Rattle.decoding.proofs.Algebra.PowerSums.{value_at, value_same}
use Rattle.decoding.proofs.Algebra.Tables.{table_ops, Powers, table_laws, table_powers, table_exponent, table_power_at, table_power_sum, table_value_is}
use Rattle.decoding.proofs.Decoding.Search.{value_more}

-- ---- exponents modulo 2,047

-- where r is 1 / d: the exponent of the table of degree d at the entry of place i + l, and that of the term a^e x^d there, differ by a multiple of 2,047
abbrev Congruent : ℕ → ℕ → ℕ → Type 0
Congruent d r c =
    (f e g w n i l s j t k : ℕ) → f + e ≡ 2047 → g + suc (i + l) ≡ n → w + n ≡ 2048 → j * 2047 + s ≡ f * r + w → k * 2047 + t ≡ s + i →
    (2047 - d) * (t + l) + 2047 * (d + 1 + c * f) ≡ g * d + e + 2047 * (t + l + d * (k + j))

congruent_1 : Congruent 1 1 0
congruent_1 f e g w n i l s j t k h1 h2 h3 h4 h5 = omega arith

congruent_2 : Congruent 2 1024 1
congruent_2 f e g w n i l s j t k h1 h2 h3 h4 h5 = omega arith

congruent_3 : Congruent 3 1365 2
congruent_3 f e g w n i l s j t k h1 h2 h3 h4 h5 = omega arith

congruent_4 : Congruent 4 512 1
congruent_4 f e g w n i l s j t k h1 h2 h3 h4 h5 = omega arith

congruent_5 : Congruent 5 819 2
congruent_5 f e g w n i l s j t k h1 h2 h3 h4 h5 = omega arith

congruent_6 : Congruent 6 1706 5
congruent_6 f e g w n i l s j t k h1 h2 h3 h4 h5 = omega arith

congruent_7 : Congruent 7 585 2
congruent_7 f e g w n i l s j t k h1 h2 h3 h4 h5 = omega arith

congruent_8 : Congruent 8 256 1
congruent_8 f e g w n i l s j t k h1 h2 h3 h4 h5 = omega arith

same_remainder : (a b x y : ℕ) → a + 2047 * x ≡ b + 2047 * y → a % 2047 ≡ b % 2047
same_remainder a b x y e = sym (add-mul-mod_self_left a 2047 x) ∙ ap (λ (u : ℕ). u % 2047) e ∙ add-mul-mod_self_left b 2047 y

-- so they are the same modulo 2,047
abbrev Starts : ℕ → ℕ → Type 0
Starts d r =
    (e n i l : ℕ) → e < 2047 → n ≤ 2047 → i + l < n →
    (2047 - d) * ((((2047 - e) * r + (2048 - n)) % 2047 + i) % 2047 + l) % 2047 ≡ ((n - suc (i + l)) * d + e) % 2047

starts_by : (d r c : ℕ) → Congruent d r c → Starts d r
starts_by d r c line e n i l he hn hl =
    let u = (2047 - e) * r + (2048 - n) in
    let s = u % 2047 in
    same_remainder _ _ _ _ (line (2047 - e) e (n - suc (i + l)) (2048 - n) n i l s (u / 2047) ((s + i) % 2047) ((s + i) / 2047)
    (omega arith) (omega arith) (omega arith) (div-add-mod' u 2047) (div-add-mod' (s + i) 2047))

starts_right : (d : ℕ) → 0 < d → d < 9 → Starts d (at reciprocals d)
unfolding reciprocals
starts_right zero pos h = absurd (not-suc-le-zero pos)
starts_right (suc zero) pos h = starts_by 1 1 0 congruent_1
starts_right (suc (suc zero)) pos h = starts_by 2 1024 1 congruent_2
starts_right (suc (suc (suc zero))) pos h = starts_by 3 1365 2 congruent_3
starts_right (suc (suc (suc (suc zero)))) pos h = starts_by 4 512 1 congruent_4
starts_right (suc (suc (suc (suc (suc zero))))) pos h = starts_by 5 819 2 congruent_5
starts_right (suc (suc (suc (suc (suc (suc zero)))))) pos h = starts_by 6 1706 5 congruent_6
starts_right (suc (suc (suc (suc (suc (suc (suc zero))))))) pos h = starts_by 7 585 2 congruent_7
starts_right (suc (suc (suc (suc (suc (suc (suc (suc zero)))))))) pos h = starts_by 8 256 1 congruent_8
starts_right (suc (suc (suc (suc (suc (suc (suc (suc (suc d))))))))) pos h = absurd (omega arith)

-- ---- the terms

module _ (es ls : List ℕ) (T : Tables es ls) where
  abbrev O : Ops ℕ
  O = table_ops es ls

  K : Laws O (λ a. a < length ls)
  K = table_laws es ls T

  P : Powers es ls
  P = table_powers es ls T

  power_times : (x j : ℕ) → times_power (table_product es ls) (table_power es x) 1 j ≡ table_power es (x * j)
  unfolding times_power
  power_times x zero = sym (ap (table_power es) (mul-zero x) ∙ P.first)
  power_times x (suc j) =
      ap (table_product es ls (table_power es x)) (power_times x j) ∙ sym (table_power_sum es ls T x (x * j)) ∙ ap (table_power es) (add_comm x (x * j) ∙ sym (mul-suc x j))

  module _ (v : List ℕ) (n : ℕ) (tables : List ℕ) (R : TablesFor es ls v n tables) (nine : length v ≡ 9) where
    -- the term of degree d at the locator x
    abbrev term : ℕ → ℕ → ℕ
    term x d = table_product es ls (times_power (table_product es ls) x 1 d) (at v (8 - d))

    by_remainder : (a b : ℕ) → a % 2047 ≡ b % 2047 → table_power es a ≡ table_power es b
    unfolding table_power
    by_remainder a b e = rw R.order (ap (at es) e)

    module _ (i l : ℕ) (short : l < 40) (inside : i + l < n) where
      abbrev X : ℕ
      X = locator es n (i + l)

      -- the entry of the table of degree d + 1
      module _ (d : ℕ) (h : d < 8) where
        abbrev c : ℕ
        c = at v (7 - d)

        entry_zero : c ≡ 0 → at tables (table_base c (d + 1) + (table_start ls c (d + 1) n + i) % 2047 + l) ≡ table_product es ls (times_power (table_product es ls) X 1 (suc d)) c
        unfolding table_base table_start
        entry_zero z =
            let q : 0 + (0 + i) % 2047 + l ≡ i % 2047 + l = simp zero-add in
            rw (eq-eqb c 0 z) (ap (at tables) q ∙ R.tables_are.zeros (i % 2047 + l) (omega (arith, mod-lt i {m = 2047} (lit< tt)))
            ∙ sym (ap (table_product es ls (times_power (table_product es ls) X 1 (suc d))) z ∙ F.mul-zero O K _))

        entry_power_lem : ¬ (c ≡ 0) → at tables (table_base c (d + 1) + (table_start ls c (d + 1) n + i) % 2047 + l) ≡ table_product es ls (times_power (table_product es ls) X 1 (suc d)) c
        unfolding table_base table_start locator
        entry_power_lem nz =
            rw (ne_eqb c 0 nz, add-one, add_assoc (2087 * suc d))
            (R.tables_are.powers (suc d) m (omega arith) there (omega (arith, mod-lt ((start + i)) {m = 2047} (lit< tt)))
            ∙ by_remainder ((2047 - suc d) * m) ((n - suc (i + l)) * suc d + e) (starts_right (suc d) (omega arith) (omega arith) e n i l e_lt R.short inside)
            ∙ table_power_sum es ls T ((n - suc (i + l)) * suc d) e ∙ ap₂ (table_product es ls) (sym (power_times (n - suc (i + l)) (suc d))) e_is)
          where
            by_c : (at ls c < length es) × (at es (at ls c) ≡ c)
            by_c = table_exponent es ls T c nz (R.elements (7 - d))

            e : ℕ
            e = at ls c

            e_lt : e < 2047
            e_lt = rw (← R.order) by_c.0

            e_is : table_power es e ≡ c
            e_is = sym (table_power_at es ls T e by_c.0) ∙ by_c.1

            start : ℕ
            start = ((2047 - e) * at reciprocals (suc d) + (2048 - n)) % 2047

            m : ℕ
            m = (start + i) % 2047 + l

            there : suc d ≤ at tables 18783
            there = go (dec_lt (7 - d + at tables 18783) 8)
              where
                go : Dec (7 - d + at tables 18783 < 8) → suc d ≤ at tables 18783
                go (yes b) = absurd (nz (R.enough (7 - d) b))
                go (no b) = omega arith

        entry_is : at tables (table_position (table_bases v) (table_starts ls v n) i d + l) ≡ term X (suc d)
        unfolding table_position table_bases table_starts
        entry_is =
            let q : 8 - suc d ≡ 7 - d = omega arith in
            rw (q, tabulate_at 8 (λ d. table_base (at v (7 - d)) (d + 1)) d 0 h, tabulate_at 8 (λ d. table_start ls (at v (7 - d)) (d + 1) n) d 0 h) (go (is_zero c))
          where
            go : Dec (c ≡ 0) → at tables (table_base c (d + 1) + (table_start ls c (d + 1) n + i) % 2047 + l) ≡ table_product es ls (times_power (table_product es ls) X 1 (suc d)) c
            go (yes z) = entry_zero z
            go (no z) = entry_power_lem z

      -- the value, by its nine terms
      value_terms : (d : ℕ) → d ≤ 9 → value_at O X (λ k. at v (9 - d + k)) d ≡ xor_to d (term X)
      unfolding value_at xor_to
      value_terms zero h = refl
      value_terms (suc d) h = value_more es ls T n v R.elements X d h ∙ ap (λ (u : ℕ). xor u (term X d)) (value_terms d (omega arith))

      pub tables_value : table_value es ls v X ≡ xor (at v 8) (tables_sum tables (table_bases v) (table_starts ls v n) i l)
      unfolding xor_to tables_sum eight_at four_at times_power
      tables_value =
          table_value_is es ls v X 9 nine ∙ value_same O K X _ _ 9 (λ k h. ap (at v) (sym (zero-add k))) ∙ value_terms 9 (le_refl 9)
          ∙ rw (entry_is 0 (lit< tt), entry_is 1 (lit< tt), entry_is 2 (lit< tt), entry_is 3 (lit< tt), entry_is 4 (lit< tt), entry_is 5 (lit< tt), entry_is 6 (lit< tt), entry_is 7 (lit< tt))
          (simp (xor_assoc, xor_zero_l, K.one-mul (at v 8) (R.elements 8)))
