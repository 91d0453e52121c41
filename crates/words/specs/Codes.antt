-- What is proved of Reed-Solomon codes with any parameters, and of the two codes.
use Rattle.std.specs.Prelude.{◌≡◌, true, List, ◌++◌, ℕ, suc, ◌+◌, ◌*◌, ◌^◌, ◌≤◌, ◌<◌, length}
use Rattle.fields.specs.Elements.{power}
use Rattle.fields.specs.Field.{Field}
use Rattle.fields.specs.Places.{at, all_below, value, apart}
use Rattle.words.specs.ReedSolomon.{is_code_word, generator_of, parity_of}
use Rattle.words.specs.OuterCode.{is_outer, outer_parity}
use Rattle.words.specs.InnerCode.{value_b, factors, is_inner, inner_parity}
use Rattle.words.specs.Nearest.{Decodes}

-- the code with so many roots from a^first on, over the field of degree m and polynomial p
pub record ReedSolomon (m p first roots : ℕ) : Type 0 where
  -- the generator has the degree `roots`, the leading coefficient 1, and vanishes at the roots
  pub generator_length : length (generator_of m p first roots) ≡ suc roots
  pub generator_monic : at (generator_of m p first roots) 0 ≡ 1
  pub generator_vanishes : (j : ℕ) → j < roots → value m p (power m p (first + j)) (at (generator_of m p first roots)) (suc roots) ≡ 0
  -- data with its parity symbols is a code word, and no other symbols, as many, make one of it
  pub parity_length : (d : List ℕ) → length (parity_of m p first roots d) ≡ roots
  pub parity_made : (d : List ℕ) → all_below (2 ^ m) d ≡ true → is_code_word m p first roots (d ++ parity_of m p first roots d) ≡ true
  pub parity_only : (d q : List ℕ) → length d + roots < 2 ^ m → length q ≡ roots → is_code_word m p first roots (d ++ q) ≡ true → q ≡ parity_of m p first roots d
  -- the distance is above the number of roots: code words of one length below 2^m that differ in at most so many symbols are the same
  pub code_far : (c d : List ℕ) → is_code_word m p first roots c ≡ true → is_code_word m p first roots d ≡ true → length c ≡ length d → length c < 2 ^ m →
      apart c d ≤ roots → c ≡ d
  -- so different ones differ in more symbols than there are roots: the minimum distance, for a field of any size and any word length below it
  pub distance : (c d : List ℕ) → is_code_word m p first roots c ≡ true → is_code_word m p first roots d ≡ true → length c ≡ length d → length c < 2 ^ m →
      (c ≡ d → ⊥) → suc roots ≤ apart c d
  -- and a word has at most one code word within a radius of half as many symbols, and that is found
  pub code_nearest : (t n : ℕ) → 2 * t ≤ roots → n < 2 ^ m → Decodes (is_code_word m p first roots) (2 ^ m) t n

pub record Codes : Type 0 where
  -- each field has such codes, with any first root and any number of roots
  pub reed_solomon : (m p first roots : ℕ) → Field m p → ReedSolomon m p first roots
  -- data with its parity symbols is an outer code word, and no other sixteen symbols make one of it
  pub outer_length : (d : List ℕ) → length (outer_parity d) ≡ 16
  pub outer_made : (d : List ℕ) → all_below 1024 d ≡ true → is_outer (d ++ outer_parity d) ≡ true
  pub outer_only : (d q : List ℕ) → length d ≤ 1007 → length q ≡ 16 → is_outer (d ++ q) ≡ true → q ≡ outer_parity d
  -- different outer code words of one length differ in at least 17 symbols: the distance above, with its parameters
  pub outer_distance : (c d : List ℕ) → is_outer c ≡ true → is_outer d ≡ true → length c ≡ length d → length c < 1024 → (c ≡ d → ⊥) → 17 ≤ apart c d
  -- outer code words of one length that differ in at most 16 symbols are the same
  pub outer_far : (c d : List ℕ) → is_outer c ≡ true → is_outer d ≡ true → length c ≡ length d → length c ≤ 1023 → apart c d ≤ 16 → c ≡ d
  -- so a word has at most one outer code word within eight symbols, and that is found
  pub outer_nearest : (n : ℕ) → n ≤ 1023 → Decodes is_outer 1024 8 n
  -- each factor vanishes at its power of a, and no polynomial below degree 11 but 0 does
  pub factor_vanishes : (j : ℕ) → j < 8 → value_b (2 * j + 1) 12 (at factors j) ≡ 0
  pub none_lower : (j r : ℕ) → j < 8 → r < 2048 → value_b (2 * j + 1) 12 r ≡ 0 → r ≡ 0
  -- data with its parity bits is an inner code word, and no other 88 bits make one of it
  pub inner_length : (d : List ℕ) → length (inner_parity d) ≡ 88
  pub inner_made : (d : List ℕ) → length d ≡ 1952 → all_below 2 d ≡ true → is_inner (d ++ inner_parity d) ≡ true
  pub inner_only : (d q : List ℕ) → length d ≡ 1952 → is_inner (d ++ q) ≡ true → q ≡ inner_parity d
  -- inner code words that differ in at most 16 places are the same
  pub inner_far : (c d : List ℕ) → is_inner c ≡ true → is_inner d ≡ true → apart c d ≤ 16 → c ≡ d
  -- so a word has at most one inner code word within eight places, and that is found
  pub inner_nearest : Decodes is_inner 2 8 2040
