-- The inner words of a block that are no code words. Assumes nothing.
use mathlib.Core.Path.{◌≡◌, refl, sym, ap, ◌∙◌}
use mathlib.Core.Bool.{Bool, true, false, not, cond}
use Prim.Native.Nat.{ℕ, ◌^◌, ◌<◌}
use native.Mathlib.Omega.{arith}
use borrow.Author.Tests.{eq-eqb, eqb-true}
use lib.Dec.{eqb, lit<}
use lib.Pow.{pow_pos}
use Rattle.fields.proofs.Places.Tests.{tests_agree, every_at, every_true}
use Rattle.words.specs.Bits.{bit_of}
use Rattle.words.specs.InnerCode.{is_inner}
use Rattle.words.specs.InnerWords.{inner_word}
use Rattle.words.proofs.Bits.Numbers.{number_of_lt, bit_of_zero, bit_of_number, number_of_same, number_of_bits_lem}
use Rattle.inner_words.specs.Steps.Passes.{inner_codes, wrong_words}

-- 0 where a test holds, else 1
pub wrong_lt : (t : Bool) → cond t 0 1 < 2
wrong_lt true = lit< tt
wrong_lt false = lit< tt

pub wrong_other : (t : Bool) → ◌≡◌ {A = ℕ} (cond t 0 1) (cond (not t) 1 0)
wrong_other true = refl
wrong_other false = refl

pub wrong_not : (t : Bool) → ◌≡◌ {A = ℕ} (cond t 0 1) 0 → t ≡ true
wrong_not true e = refl
wrong_not false e = absurd (omega arith)

pub wrong_no : (t : Bool) → ◌≡◌ {A = ℕ} (cond t 0 1) 1 → t ≡ false
wrong_no true e = absurd (omega arith)
wrong_no false e = refl

module _ (b : ℕ → ℕ) where
  pub wrong_bit : (k : ℕ) → k < 64 → bit_of 64 (wrong_words b) k ≡ cond (is_inner (inner_word b k)) 0 1
  unfolding wrong_words
  wrong_bit k l = bit_of_number (λ k. cond (is_inner (inner_word b k)) 0 1) (λ k. wrong_lt (is_inner (inner_word b k))) 64 k l

  -- no word is wrong: each is a code word
  pub none_wrong : (x : ℕ) → x ≡ wrong_words b → eqb x 0 ≡ inner_codes b
  unfolding inner_codes wrong_words
  none_wrong x e = tests_agree (eqb x 0) (inner_codes b) (λ t. every_true 64 _ (right (eqb-true x 0 t))) (λ t. eq-eqb x 0 (e ∙ none (every_at 64 _ t)))
    where
      right : x ≡ 0 → (k : ℕ) → k < 64 → is_inner (inner_word b k) ≡ true
      right z k l = wrong_not _ (sym (wrong_bit k l) ∙ ap (λ (y : ℕ). bit_of 64 y k) (sym e ∙ z) ∙ bit_of_zero 64 k)

      none : ((k : ℕ) → k < 64 → is_inner (inner_word b k) ≡ true) → wrong_words b ≡ 0
      none all = number_of_same 64 _ (bit_of 64 0) (λ k l. ap (λ (t : Bool). cond t 0 1) (all k l) ∙ sym (bit_of_zero 64 k)) ∙ number_of_bits_lem 64 0 (pow_pos 64)

pub wrong_below : (b : ℕ → ℕ) → wrong_words b < 2 ^ 64
unfolding wrong_words
wrong_below b = number_of_lt (λ k. cond (is_inner (inner_word b k)) 0 1) (λ k. wrong_lt (is_inner (inner_word b k))) 64
