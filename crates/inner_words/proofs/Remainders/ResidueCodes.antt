-- An inner word is a code word just where its eight residues are zero. Assumes nothing.
use mathlib.Core.Path.{◌≡◌, refl, sym, ap, ◌∙◌}
use mathlib.Core.Bool.{Bool, true, cond}
use mathlib.Core.List.{List}
use Prim.Native.Nat.{ℕ, suc, ◌+◌, ◌-◌, ◌*◌, ◌/◌, ◌%◌, ◌^◌, ◌<◌}
use native.Mathlib.Nat.{div-eq_of_lt}
use native.Mathlib.Omega.{arith}
use borrow.Author.Tests.{eq-eqb, eqb-true}
use lib.Dec.{eqb, lit<}
use lib.ListN.{length}
use lib.Pow.{pow_pos}
use Rattle.fields.specs.Places.{at, every, all_below, value}
use Rattle.fields.proofs.Lists.{tabulate_at, tabulate_same}
use Rattle.fields.proofs.Places.Tests.{tests_agree, every_at, every_true, below_all, below_at}
use Rattle.lanes.specs.Steps.Sliced.{or_to}
use Rattle.words.specs.Bits.{bit_of, number_of, bit_at}
use Rattle.words.specs.InnerCode.{power_b, value_b, factors, remainder, is_inner}
use Rattle.words.specs.InnerWords.{inner_word}
use Rattle.words.proofs.Bits.Bytes.{bit_at_lt}
use Rattle.words.proofs.Bits.Numbers.{bit_of_number, bit_of_zero, number_of_bits_lem, number_of_lt, number_of_same}
use Rattle.words.proofs.Codes.Horner.{horner_same, remainder_lt, value_of_zero}
use Rattle.words.proofs.Codes.LeastPolynomials.{factor_vanishes, none_lower, times_power_sum}
use Rattle.words.proofs.Codes.InnerWords.{inner_is, inner_roots, remainder_value}
use Rattle.words.proofs.Codes.InnerRoots.{inner_code}
use Rattle.inner_words.specs.Steps.InnerResidues.{coefficient, word_residue, residues_of, WordResidues}
use Rattle.inner_words.specs.Steps.Passes.{wrong_words}
use Rattle.inner_words.proofs.Interleaving.InterleavedBits.{inner_word_length, place_to_bit}
use Rattle.inner_words.proofs.Interleaving.BitSliced.{or_to_bit, or_to_lt}

-- ---- one word

factors_degree : every 8 (λ j. eqb (at factors j / 2 ^ 11) 1) ≡ true
unfolding every factors
factors_degree = refl

pub factor_degree : (j : ℕ) → j < 8 → at factors j / 2 ^ 11 ≡ 1
factor_degree j h = eqb-true _ _ (every_at 8 (λ j. eqb (at factors j / 2 ^ 11) 1) factors_degree j h)

module _ (b : ℕ → ℕ) (bits : (i : ℕ) → b i < 2) (n j : ℕ) (j-lt : j < 8) where
  -- at its element a^(2j+1) a residue has the value of the word
  pub residue_value : value_b (2 * j + 1) 12 (remainder 11 (at factors j) b n) ≡ value 11 2053 (power_b (2 * j + 1)) b n
  residue_value = remainder_value (2 * j + 1) 11 (at factors j) (lit< tt) (factor_degree j j-lt) (factor_vanishes j j-lt) b bits n

  pub residue_lt : remainder 11 (at factors j) b n < 2 ^ 11
  residue_lt = remainder_lt 11 (at factors j) (lit< tt) (factor_degree j j-lt) b bits n

pub residues_code : (w : List ℕ) → length w ≡ 2040 → all_below 2 w ≡ true → ((j : ℕ) → j < 8 → remainder 11 (at factors j) (at w) 2040 ≡ 0) → is_inner w ≡ true
residues_code w long below none =
    inner_code w long below (λ j h. sym (residue_value (at w) (below_at 2 w (lit< tt) below) 2040 j h) ∙ rw (none j h) (value_of_zero _ (times_power_sum (2 * j + 1)) 1 12))

pub code_residues : (w : List ℕ) → is_inner w ≡ true → (j : ℕ) → j < 8 → remainder 11 (at factors j) (at w) 2040 ≡ 0
code_residues w t j h =
    let c = inner_is w t in
    none_lower j _ h (residue_lt (at w) c.bits 2040 j h) (residue_value (at w) c.bits 2040 j h ∙ inner_roots w c (2 * j + 1) (omega arith) (omega arith))

-- a polynomial of degree below n without coefficients
no_coefficients : (n r : ℕ) → r < 2 ^ n → ((i : ℕ) → i < n → coefficient i r ≡ 0) → r ≡ 0
unfolding bit_of
no_coefficients n r small none =
    sym (number_of_bits_lem n r small) ∙ number_of_same n (bit_of n r) (bit_of n 0) (λ i l. none (n - suc i) (omega arith) ∙ sym (bit_of_zero n i)) ∙ number_of_bits_lem n 0 (pow_pos n)

-- it is, by the coefficients of its residues one after the other
pub code_by : (w : List ℕ) (f : ℕ → ℕ) → length w ≡ 2040 → all_below 2 w ≡ true →
    ((c : ℕ) → c < 88 → f c ≡ coefficient (c % 11) (remainder 11 (at factors (c / 11)) (at w) 2040)) → every 88 (λ c. eqb (f c) 0) ≡ is_inner w
code_by w f long below e =
    tests_agree _ _
    (λ t. residues_code w long below (λ j h. no_coefficients 11 _ (residue_lt (at w) (below_at 2 w (lit< tt) below) 2040 j h) (no_coefficient t j h)))
    (λ t. every_true 88 _ (λ c l. eq-eqb _ 0 (e c l ∙ ap (coefficient (c % 11)) (code_residues w t (c / 11) (omega arith))
    ∙ ap (λ (x : ℕ). x % 2) (div-eq_of_lt (pow_pos (c % 11))))))
  where
    no_coefficient : every 88 (λ c. eqb (f c) 0) ≡ true → (j : ℕ) → j < 8 → (i : ℕ) → i < 11 → coefficient i (remainder 11 (at factors j) (at w) 2040) ≡ 0
    no_coefficient t j hj i hi =
        let c = 11 * j + i in
        let q : c / 11 ≡ j = omega arith in
        let r : c % 11 ≡ i = omega arith in
        rw (q, r) at (sym (e c (omega arith))) ∙ eqb-true _ 0 (every_at 88 (λ c. eqb (f c) 0) t c (omega arith))

-- ---- the words of a block

module _ (block : List ℕ) where
  abbrev b : ℕ → ℕ
  b = bit_at block

  pub residue_bit : (n k c : ℕ) → k < 64 → c < 88 → bit_of 64 (at (residues_of block n) c) k ≡ coefficient (c % 11) (word_residue (c / 11) block n k)
  unfolding residues_of
  residue_bit n k c hk hc =
      ap (λ (x : ℕ). bit_of 64 x k) (tabulate_at 88 _ c 0 hc) ∙ bit_of_number _ (λ k. omega arith) 64 k hk

  -- the residues of the whole words
  abbrev whole : List ℕ
  whole = residues_of block 2040

  word_residue_lem : (j k : ℕ) → word_residue j block 2040 k ≡ remainder 11 (at factors j) (at (inner_word b k)) 2040
  unfolding word_residue
  word_residue_lem j k = horner_same _ _ _ 2040 (λ p l. sym (place_to_bit b k p l))

  pub word_below : (k : ℕ) → all_below 2 (inner_word b k) ≡ true
  word_below k = below_all 2 (inner_word b k) (λ p l. rw (place_to_bit b k p (rw (inner_word_length b k) at l)) (bit_at_lt block _))

  same_code : (k : ℕ) → k < 64 → every 88 (λ c. eqb (bit_of 64 (at whole c) k) 0) ≡ is_inner (inner_word b k)
  same_code k h =
      code_by (inner_word b k) _ (inner_word_length b k) (word_below k) (λ c l. residue_bit 2040 k c h l ∙ ap (coefficient (c % 11)) (word_residue_lem (c / 11) k))

  pub residues_lt : (n c : ℕ) → c < 88 → at (residues_of block n) c < 2 ^ 64
  unfolding residues_of
  residues_lt n c h = rw (tabulate_at 88 (λ c. number_of 64 (λ k. coefficient (c % 11) (word_residue (c / 11) block n k))) c 0 h) (number_of_lt _ (λ k. omega arith) 64)

  residues_wrong : or_to 88 (at whole) ≡ wrong_words b
  unfolding wrong_words
  residues_wrong =
      sym (number_of_bits_lem 64 _ (or_to_lt 64 88 _ (residues_lt 2040)))
      ∙ number_of_same 64 (bit_of 64 (or_to 88 (at whole))) _ (λ k m. or_to_bit 64 k 88 _ ∙ ap (λ (t : Bool). cond t 0 1) (same_code k m))

  pub words_wrong : (cells : List ℕ) (x : ℕ) → cells ≡ residues_of block (5 + 11 * 185) → x ≡ or_to 88 (at cells) → x ≡ wrong_words (bit_at block)
  words_wrong cells x e h = h ∙ ap (λ (c : List ℕ). or_to 88 (at c)) e ∙ residues_wrong

  pub words_right : (cells : List ℕ) (x : ℕ) → cells ≡ residues_of block (5 + 11 * 185) → x ≡ or_to 88 (at cells) → x ≡ 0 → 0 ≡ wrong_words (bit_at block)
  words_right cells x e h z = sym z ∙ words_wrong cells x e h

-- ---- the residues of the words that are left

residue_same : (b c : List ℕ) (j k : ℕ) → inner_word (bit_at b) k ≡ inner_word (bit_at c) k → word_residue j b 2040 k ≡ word_residue j c 2040 k
unfolding word_residue
residue_same b c j k e =
    horner_same _ _ _ 2040 (λ p l. sym (place_to_bit (bit_at b) k p l) ∙ ap (λ (w : List ℕ). at w p) e ∙ place_to_bit (bit_at c) k p l)

-- blocks of the same bits have the same residues
pub residues_same : (b c : List ℕ) → ((i : ℕ) → i < 130560 → bit_at b i ≡ bit_at c i) → residues_of b 2040 ≡ residues_of c 2040
unfolding residues_of word_residue
residues_same b c same =
    tabulate_same 88 _ _ (λ n h. number_of_same 64 _ _ (λ k l. ap (coefficient (n % 11)) (horner_same _ _ _ 2040 (λ p m. same (64 * p + k) (omega arith)))))

pub whole_residues : (residues block : List ℕ) → residues ≡ residues_of block (5 + 11 * 185) → (k : ℕ) → k < 64 → WordResidues residues k block
whole_residues residues block e k l = record { each = λ c h. ap (λ (r : List ℕ). bit_of 64 (at r c) k) e ∙ residue_bit block 2040 k c l h }

-- a word that is as it was has the residues that it had
pub residues_kept : {residues before after : List ℕ} {k : ℕ} → inner_word (bit_at after) k ≡ inner_word (bit_at before) k → WordResidues residues k before → WordResidues residues k after
residues_kept {residues} {before} {after} {k} same R =
    record { each = λ c h. R.each c h ∙ ap (coefficient (c % 11)) (residue_same before after (c / 11) k (sym same)) }
