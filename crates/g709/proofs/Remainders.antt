-- A word of a row and its remainder have the same values at the roots: syndromes are those of sixteen symbols. Assumes nothing.
use mathlib.Core.Path.{◌≡◌, sym, ap, ap₂, ◌∙◌}
use mathlib.Core.Bool.{true}
use mathlib.Core.List.{List, ◌++◌}
use Prim.Native.Nat.{ℕ, ◌+◌, ◌*◌, ◌<◌}
use native.Mathlib.Omega.{arith}
use lib.Dec.{lit<}
use lib.ListN.{length}
use lib.Seq.{get_or-append-add}
use Rattle.fields.specs.Lists.{tabulate}
use Rattle.fields.specs.Elements.{xor}
use Rattle.fields.proofs.Lists.{tabulate_at, tabulate_length, tabulate_lt}
use Rattle.fields.proofs.Xor.{xor_lt}
use Rattle.fields.specs.Places.{at, all_below, horner}
use Rattle.fields.proofs.Places.Tests.{below_all}
use Rattle.words.proofs.Codes.Horner.{iter, horner_same, horner_sum, horner_parts}
use Rattle.words.specs.ReedSolomon.{value_at_root, is_code_word}
use Rattle.g709.specs.Rows.{received_bytes}
use Rattle.g709.specs.Steps.Registers.{over, registers, row_divided, row_remainders}
use Rattle.words.proofs.Codes.ReedSolomon.{code_is}
use Rattle.g709.proofs.ByteCode.{code_c}
use Rattle.g709.proofs.Overlays.{over_in}
use Rattle.g709.proofs.Lanes.{lane, registers_at, registers_length}
use Rattle.g709.proofs.Folds.{by, by_sum, value_by, append_value, same_of, parity_lane}
use Rattle.g709.proofs.Rows.{word_to_row, received_length}

module _ (b : List ℕ) (r k : ℕ) (small : (i : ℕ) → at b i < 256) (hk : k < 16) where
  d : ℕ → ℕ
  d i = at b (4080 * r + i)

  abbrev c : ℕ → ℕ
  c t = at b (4080 * r + (16 * t + k))

  abbrev P : List ℕ
  P = lane (λ i. at b (4080 * r + i)) 239 k

  abbrev D : List ℕ
  D = tabulate 239 (λ t. at b (4080 * r + (16 * t + k)))

  abbrev M : List ℕ
  M = tabulate 16 (λ i. at (row_remainders b (4080 * r)) (16 * i + k))

  D_length : length D ≡ 239
  D_length = tabulate_length {A = ℕ} 239 (λ t. at b (4080 * r + (16 * t + k)))

  code : is_code_word 8 285 0 16 (D ++ P) ≡ true
  code = rw (← parity_lane (λ i. at b (4080 * r + i)) k) (code_c.parity_made D (below_all 256 D (λ i l. tabulate_lt 256 239 _ (lit< tt) (λ t. small _) i)))

  P_length : length P ≡ 16
  P_length = ap length (sym (parity_lane (λ i. at b (4080 * r + i)) k)) ∙ code_c.parity_length D

  M_at : (i : ℕ) → i < 16 → at M i ≡ xor (at P i) (c (239 + i))
  unfolding row_remainders row_divided
  M_at i l =
      let zero : 16 * i + k ≡ 0 + (16 * i + k) = omega arith in
      let up : 4080 * r + 3824 + (16 * i + k) ≡ 4080 * r + (16 * (239 + i) + k) = omega arith in
      let R = registers (λ i. at b (4080 * r + i)) 239 in
      let e : at R (16 * i + k) ≡ at P i = registers_at (λ i. at b (4080 * r + i)) 239 i k (omega arith) hk in
      tabulate_at 16 _ i 0 l ∙ ap (at (over R 0 256 (λ i. xor (at R i) (at b (4080 * r + 3824 + i))))) zero
      ∙ over_in R 0 256 (λ i. xor (at R i) (at b (4080 * r + 3824 + i))) (16 * i + k) (omega arith) (omega (arith, registers_length (λ i. at b (4080 * r + i)) 239))
      ∙ ap₂ xor e (ap (at b) up)

  module _ (j : ℕ) (hj : j < 16) where
    X_is : iter (by j) 16 (horner (by j) c 239) ≡ horner (by j) (at P) 16
    X_is =
        same_of _ (horner (by j) (at P) 16)
        (sym (append_value j D P P_length
        ∙ ap (λ (x : ℕ). xor (iter (by j) 16 x) (horner (by j) (at P) 16)) (ap (horner (by j) (at D)) D_length ∙ horner_same (by j) _ c 239 (λ t l. tabulate_at 239 _ t 0 l)))
        ∙ (code_is 8 285 0 16 (D ++ P) code).zeros j hj)

    pub word_remainder : value_at_root 8 285 0 (received_bytes b (16 * r + k)) j ≡ value_at_root 8 285 0 (tabulate 16 (λ i. at (row_remainders b (4080 * r)) (16 * i + k))) j
    word_remainder =
        value_by (received_bytes b (16 * r + k)) j ∙ ap (horner (by j) (at (received_bytes b (16 * r + k)))) (received_length b (16 * r + k))
        ∙ horner_same (by j) _ c 255 (λ s l. word_to_row b r k s hk l)
        ∙ horner_parts (by j) (by_sum j) c 239 16
        ∙ ap (λ (x : ℕ). xor x (horner (by j) (λ i. c (239 + i)) 16)) X_is
        ∙ sym (horner_sum (by j) (by_sum j) (at P) (λ i. c (239 + i)) 16)
        ∙ sym (horner_same (by j) (at M) (λ i. xor (at P i) (c (239 + i))) 16 M_at)
        ∙ sym (value_by M j ∙ ap (horner (by j) (at M)) (tabulate_length 16 _))

  P_lt : (i : ℕ) → at P i < 256
  P_lt i = rw (← get_or-append-add D P i 0) ((code_is 8 285 0 16 (D ++ P) code).symbols (length D + i))

  pub lane_below : all_below 256 (tabulate 16 (λ i. at (row_remainders b (4080 * r)) (16 * i + k))) ≡ true
  lane_below =
      below_all 256 M (λ i l.
      let m : i < 16 = omega (arith, tabulate_length {A = ℕ} 16 (λ i. at (row_remainders b (4080 * r)) (16 * i + k))) in
      rw (M_at i m) (xor_lt 8 _ _ (P_lt i) (small _)))
