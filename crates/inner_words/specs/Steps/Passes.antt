-- What the functions give that test and correct the 64 inner words of a block. b is the block's bits.
use Rattle.std.specs.Prelude.{◌≡◌, Bool, false, cond, List, ℕ, ◌<◌, length}
use Rattle.fields.specs.Places.{every}
use Rattle.words.specs.Bits.{number_of, bit_at}
use Rattle.words.specs.InnerCode.{is_inner}
use Rattle.words.specs.InnerWords.{inner_word, inner_restored, inner_pass, is_lost}

-- each inner word is a code word
unfoldable pub inner_codes : (ℕ → ℕ) → Bool
inner_codes b = every 64 (λ k. is_inner (inner_word b k))

-- bit k of the number, the highest of 64 first, is 1 where inner word k is no code word
unfoldable pub wrong_words : (ℕ → ℕ) → ℕ
wrong_words b = number_of 64 (λ k. cond (is_inner (inner_word b k)) 0 1)

-- the inner word v is what w is restored to
pub record WordRestored (w v : List ℕ) : Type 0 where
  pub is : v ≡ inner_restored w

-- what v is restored to is what w is restored to; and v is w unless it is a code word
pub record WordNearer (w v : List ℕ) : Type 0 where
  pub same : inner_restored v ≡ inner_restored w
  pub kept : is_inner v ≡ false → v ≡ w

-- inner word k stands to what it was as P says, and the others are as they were; the bit is 1 if it is no code word then
pub record OneWord (P : List ℕ → List ℕ → Type 0) (k : ℕ) (before after : List ℕ) (bit : ℕ) : Type 0 where
  pub long : length after ≡ length before
  pub told : bit ≡ cond (is_inner (inner_word (bit_at after) k)) 0 1
  pub word : P (inner_word (bit_at before) k) (inner_word (bit_at after) k)
  pub others : (j : ℕ) → j < 64 → (j ≡ k → ⊥) → inner_word (bit_at after) j ≡ inner_word (bit_at before) j

-- each inner word stands to what it was as P says
pub record EachWord (P : List ℕ → List ℕ → Type 0) (before after : List ℕ) : Type 0 where
  pub long : length after ≡ length before
  pub word : (k : ℕ) → k < 64 → P (inner_word (bit_at before) k) (inner_word (bit_at after) k)

-- bit k of the number, the highest of 64 first, is 1 where the inner pass leaves inner word k as received
unfoldable pub lost_words : (ℕ → ℕ) → ℕ
lost_words b = number_of 64 (λ k. cond (is_lost b k) 1 0)

-- the inner pass over a block: its bits, and the inner words that it leaves as received, which are those that are no code words then
pub record InnerPassed (before after : List ℕ) (left : ℕ) : Type 0 where
  pub long : length after ≡ length before
  pub bits : (i : ℕ) → i < 130560 → bit_at after i ≡ inner_pass (bit_at before) i
  pub lost : left ≡ lost_words (bit_at before)
  pub wrong : left ≡ wrong_words (bit_at after)
