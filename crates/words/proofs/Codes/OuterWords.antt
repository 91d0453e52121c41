-- The outer code as a Reed-Solomon code; and the remainder of a word, which tells whether it is a code word and has its values at the roots. Assumes nothing.
use mathlib.Core.Path.{◌≡◌, sym, ap, ap₂, ◌∙◌}
use mathlib.Core.Bool.{true}
use mathlib.Core.List.{List}
use Prim.Native.Nat.{ℕ, ◌+◌, ◌-◌, ◌≤◌, ◌<◌}
use native.Mathlib.Omega.{arith}
use lib.Dec.{lit<}
use lib.ListN.{length, take, get_or-eq_default}
use lib.Seq.{get_or-take, length-take-le}
use Rattle.fields.specs.Elements.{xor, times_a, powers_a, exponents_a}
use Rattle.fields.specs.Lists.{tabulate}
use Rattle.fields.specs.Places.{at, all_below, value}
use Rattle.fields.proofs.Instances.{field_a}
use Rattle.fields.proofs.Lists.{tabulate_at, tabulate_length, tabulate_lt, tabulate_same}
use Rattle.fields.proofs.Xor.{xor_zero_r, xor_self, xor_cancel}
use Rattle.fields.proofs.Places.Tests.{below_at, below_all, below_take}
use Rattle.decoding.specs.Steps.ByTables.{root_values}
use Rattle.words.specs.ReedSolomon.{value_at_root, parity_of}
use Rattle.words.specs.OuterCode.{power_a, outer_value, is_outer, generator, outer_parity}
use Rattle.words.specs.Codes.{ReedSolomon}
use Rattle.words.specs.Steps.Division.{outer_remainder}
use Rattle.words.proofs.Codes.Division.{register_value}
use Rattle.words.proofs.Codes.Horner.{Additive, iter, horner_same, horner_sum, horner_parts}
use Rattle.words.proofs.Codes.GeneratorRoots.{generator_elements}
use Rattle.words.proofs.Codes.ReedSolomon.{CodeWord, code_is, root_is, parity_below, ends_code, code_ends, reed_solomon}

pub outer_code : ReedSolomon 10 1033 0 16
outer_code = reed_solomon 10 1033 0 16 field_a

pub outer_is : (w : List ℕ) → is_outer w ≡ true → CodeWord 10 1033 0 16 w
outer_is = code_is 10 1033 0 16

pub generator_lt : (i : ℕ) → at generator i < 1024
generator_lt = generator_elements 10 1033 field_a 0 16

pub outer_length : (d : List ℕ) → length (outer_parity d) ≡ 16
outer_length = outer_code.parity_length

pub outer_below : (d : List ℕ) → all_below 1024 d ≡ true → all_below 1024 (outer_parity d) ≡ true
outer_below = parity_below 10 1033 0 16 field_a

-- the remainder has the word's values at the roots
module _ (w : List ℕ) (n : ℕ) (cut : n ≡ length w - 16) (least : 16 ≤ length w) (h : all_below 1024 w ≡ true) where
  abbrev others : List ℕ
  others = take n w

  abbrev rest : ℕ → ℕ
  rest i = xor (at (outer_parity others) i) (at w (n + i))

  remainder_is : outer_remainder w ≡ tabulate 16 rest
  unfolding outer_remainder
  remainder_is = rw (← cut)

  pub remainder_cell : (i : ℕ) → Dec (i < 16) → at (outer_remainder w) i ≡ rest i
  remainder_cell i (yes b) = ap (λ (r : List ℕ). at r i) remainder_is ∙ tabulate_at 16 rest i 0 b
  remainder_cell i (no b) =
      let p : at (outer_parity others) i ≡ 0 = get_or-eq_default (outer_parity others) 0 {n = i} (omega (arith, outer_length others)) in
      let q : at w (n + i) ≡ 0 = get_or-eq_default w 0 {n = n + i} (omega arith) in
      ap (λ (r : List ℕ). at r i) remainder_is ∙ get_or-eq_default (tabulate 16 rest) 0 {n = i} (rw tabulate_length (omega arith)) ∙ sym (ap₂ xor p q ∙ xor_self 0)

  pub remainder_length : length (outer_remainder w) ≡ 16
  remainder_length = ap length remainder_is ∙ tabulate_length 16 rest

  -- it is zero just where the word is a code word
  module _ (most : length w ≤ 1023) where
    whole : length w ≡ n + 16
    whole = omega arith

    pub zero_code : ((i : ℕ) → i < 16 → at (outer_remainder w) i ≡ 0) → is_outer w ≡ true
    zero_code z =
        ends_code 10 1033 0 16 field_a w n whole (omega arith) h
        (λ i b. sym (xor_cancel (at (outer_parity others) i) (at w (n + i))) ∙ ap (xor (at (outer_parity others) i)) (sym (remainder_cell i (yes b)) ∙ z i b) ∙ xor_zero_r _)

    pub code_zero : is_outer w ≡ true → (i : ℕ) → i < 16 → at (outer_remainder w) i ≡ 0
    code_zero t i b = remainder_cell i (yes b) ∙ ap (xor (at (outer_parity others) i)) (code_ends 10 1033 0 16 field_a w n whole (omega arith) h t i b) ∙ xor_self _

  pub remainder_below : all_below 1024 (outer_remainder w) ≡ true
  remainder_below =
      let parity = below_at 1024 (outer_parity others) (lit< tt) (outer_below others (below_take 1024 n w h)) in
      rw remainder_is
      (below_all 1024 (tabulate 16 rest) (λ i l. tabulate_lt 1024 16 rest (lit< tt) (λ j. field_a.sum_lt _ _ (parity j) (below_at 1024 w (lit< tt) h (n + j))) i))

  remainder_value : (j : ℕ) → j < 16 → outer_value (outer_remainder w) j ≡ outer_value w j
  unfolding value_at_root parity_of
  remainder_value j l =
      let x = power_a (0 + j) in
      let f_sum : Additive (λ v. times_a v x) = λ u v. field_a.sum_times u v x in
      let all : length w ≡ n + 16 = omega arith in
      let long : length others ≡ n = length-take-le n w (omega arith) in
      let front : value 10 1033 x (at others) (length others) ≡ value 10 1033 x (at w) n =
      ap (value 10 1033 x (at others)) long ∙ horner_same (λ v. times_a v x) (at others) (at w) n (λ i b. get_or-take n w i 0 b) in
      let register =
      register_value 10 1033 field_a x (field_a.power_lt (0 + j)) 16 (at generator) generator_lt outer_code.generator_monic (outer_code.generator_vanishes j l)
      (at others) (below_at 1024 others (lit< tt) (below_take 1024 n w h)) (length others) in
      rw (remainder_is, tabulate_length 16 rest)
      (horner_same (λ v. times_a v x) (at (tabulate 16 rest)) rest 16 (λ i b. tabulate_at 16 rest i 0 b)
      ∙ horner_sum (λ v. times_a v x) f_sum (at (outer_parity others)) (λ i. at w (n + i)) 16
      ∙ ap (λ (v : ℕ). xor v (value 10 1033 x (λ i. at w (n + i)) 16)) (register ∙ ap (iter (λ v. times_a v x) 16) front)
      ∙ sym (ap (value 10 1033 x (at w)) all ∙ horner_parts (λ v. times_a v x) f_sum (at w) n 16))

  pub remainder_roots : root_values powers_a exponents_a (outer_remainder w) ≡ root_values powers_a exponents_a w
  unfolding root_values
  remainder_roots = tabulate_same 16 _ _ (λ j l. root_is 10 1033 field_a (outer_remainder w) remainder_below j ∙ remainder_value j l ∙ sym (root_is 10 1033 field_a w h j))
