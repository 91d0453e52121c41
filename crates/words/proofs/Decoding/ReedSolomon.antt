-- A Reed-Solomon code with sixteen roots from a^0 on, over any field: what the decoder finds is the code word within eight symbols, and if it leaves
-- something there is none. Assumes nothing.
use mathlib.Core.Path.{◌≡◌, refl, sym, ap, ap₂, ◌∙◌}
use mathlib.Core.Bool.{Bool, true, false}
use mathlib.Core.List.{List}
use mathlib.Core.Option.{none, some}
use Prim.Native.Nat.{ℕ, ◌^◌, ◌≤◌, ◌<◌}
use native.Mathlib.Decide.{dec_lt}
use native.Mathlib.Omega.{arith}
use lib.Dec.{lit≤}
use lib.ListN.{length}
use lib.Pow.{pow_pos}
use Rattle.fields.specs.Elements.{xor, powers, exponents}
use Rattle.fields.specs.Field.{Field}
use Rattle.fields.specs.Places.{at, all_below, apart}
use Rattle.fields.proofs.Lists.{tabulate_at}
use Rattle.fields.proofs.Xor.{xor_lt, xor_self, xor_zero_r}
use Rattle.fields.proofs.Places.Tests.{below_at, below_all}
use Rattle.decoding.specs.Steps.ByTables.{table_value, root_value, root_values}
use Rattle.decoding.specs.Steps.Decoder.{Tables, syndrome, error_at, Decoded, weight_between, with_errors}
use Rattle.decoding.proofs.Algebra.Tables.{exponents_length}
use Rattle.decoding.proofs.Decoding.Changes.{sum_weight, error_lt, weight_most, errors_length, errors_at, apart_errors, syndrome_same, syndrome_add, value_syndrome, none_left, few_leave_none}
use Rattle.words.specs.ReedSolomon.{value_at_root, is_code_word}
use Rattle.words.specs.Nearest.{nearest}
use Rattle.words.proofs.Codes.Nearest.{nearest_lost}
use Rattle.words.proofs.Codes.ReedSolomon.{root_is, code_is, is_code_lem, reed_solomon}

module _ (m p : ℕ) (F : Field m p) where
  abbrev es : List ℕ
  es = powers m p

  abbrev ls : List ℕ
  ls = exponents m p

  pub tables_of : Tables (powers m p) (exponents m p)
  tables_of = (m, p, record { field = F; exp = refl; log = refl })

  log_length : length ls ≡ 2 ^ m
  log_length = exponents_length m p F

  abbrev is_code : List ℕ → Bool
  is_code = is_code_word m p 0 16

  -- a word's values at the roots are its syndromes
  value_is : (w : List ℕ) → all_below (2 ^ m) w ≡ true → (j : ℕ) → value_at_root m p 0 w j ≡ syndrome es ls (length w) (at w) j
  unfolding root_value table_value
  value_is w h j =
      sym (root_is m p F w h j) ∙ value_syndrome es ls (length w) tables_of (at w) (λ i. rw log_length (below_at (2 ^ m) w (pow_pos m) h i)) j

  -- the errors found for the values of the word w at the roots
  module _ (w : List ℕ) (symbols : all_below (2 ^ m) w ≡ true) (places values : List ℕ) (count : ℕ) (left : List ℕ)
      (D : Decoded (powers m p) (exponents m p) (root_values (powers m p) (exponents m p) w) (length w) places values count left) where
    abbrev n : ℕ
    n = length w

    abbrev t : List ℕ
    t = root_values es ls w

    word_lt : (i : ℕ) → at w i < 2 ^ m
    word_lt = below_at (2 ^ m) w (pow_pos m) symbols

    root_at : (j : ℕ) → j < 16 → at t j ≡ syndrome es ls n (at w) j
    unfolding root_values
    root_at j l = tabulate_at 16 (root_value es ls w) j 0 l ∙ root_is m p F w symbols j ∙ value_is w symbols j

    -- if they leave nothing, the word with them added is the code word
    module _ (test : all_below 1 left ≡ true) where
      abbrev c : List ℕ
      c = with_errors (at w) places values count n

      long : length c ≡ n
      long = errors_length places values n count (at w)

      c_below : all_below (2 ^ m) c ≡ true
      c_below =
          below_all (2 ^ m) c (λ i l. rw (errors_at places values n count (at w) i (rw long at l))
          (xor_lt m _ _ (word_lt i) (error_lt places values m count i (λ k h. rw log_length at (D.elements k h)))))

      c_root : (j : ℕ) → j < 16 → value_at_root m p 0 c j ≡ 0
      c_root j l =
          value_is c c_below j ∙ ap (λ (n : ℕ). syndrome es ls n (at c) j) long ∙ syndrome_same es ls n (at c) _ (errors_at places values n count (at w)) j
          ∙ syndrome_add es ls n tables_of (at w) (error_at places values count) j
          ∙ ap₂ xor (sym (root_at j l)) (sym (none_left es ls n t places values count left D test j l)) ∙ xor_self (at t j)

      pub symbols_changed : apart w (with_errors (at w) places values count (length w)) ≡ weight_between 0 (length w) places values count
      symbols_changed = apart_errors places values n count (at w) w (λ i l. refl) D.ascending refl

      pub symbols_found : length w < 2 ^ m → nearest (is_code_word m p 0 16) (2 ^ m) 8 w ≡ some (with_errors (at w) places values count (length w))
      symbols_found short =
          ((reed_solomon m p 0 16 F).code_nearest 8 n (lit≤ tt) short).complete w c refl long (is_code_lem m p 0 16 c c_below c_root)
          (omega (arith, symbols_changed, weight_most places values 0 n count, D.few))

    -- a code word near enough: the errors between it and w have the syndromes of w, so nothing is left
    module _ (c : List ℕ) (code : is_code c ≡ true) (same : length c ≡ n) (near : apart w c ≤ 8) (long : length left ≡ 16) where
      symbol_lt : (i : ℕ) → at c i < 2 ^ m
      symbol_lt = (code_is m p 0 16 c code).symbols

      between : (j : ℕ) → j < 16 → at t j ≡ syndrome es ls n (λ i. xor (at w i) (at c i)) j
      between j l =
          let zero : syndrome es ls n (at c) j ≡ 0 =
          ap (λ (n : ℕ). syndrome es ls n (at c) j) (sym same) ∙ sym (value_is c (below_all (2 ^ m) c (λ i b. symbol_lt i)) j) ∙ (code_is m p 0 16 c code).zeros j l in
          root_at j l ∙ sym (syndrome_add es ls n tables_of (at w) (at c) j ∙ ap (xor (syndrome es ls n (at w) j)) zero ∙ xor_zero_r _)

      near_left : all_below 1 left ≡ true
      near_left =
          few_leave_none es ls n t places values count left D long (λ i. xor (at w i) (at c i))
          (record {
            elements = λ i. rw log_length (xor_lt m _ _ (word_lt i) (symbol_lt i));
            syndromes = between;
            few = omega (arith, sum_weight w c);
          })

    -- if something is left, there is none
    pub symbols_lost : length left ≡ 16 → all_below 1 left ≡ false → nearest (is_code_word m p 0 16) (2 ^ m) 8 w ≡ none
    symbols_lost long test = nearest_lost is_code (2 ^ m) 8 w (λ c code same. go c code same (dec_lt 8 (apart w c)))
      where
        go : (c : List ℕ) → is_code c ≡ true → length c ≡ n → Dec (8 < apart w c) → 8 < apart w c
        go c code same (yes l) = l
        go c code same (no far) =
            let all : all_below 1 left ≡ true = near_left c code same (omega arith) long in
            let z : ◌≡◌ {A = ℕ} 0 1 = cc in
            absurd (omega arith)
