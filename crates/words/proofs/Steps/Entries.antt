-- What each entry answers, on each way through it. Assumes nothing.
use mathlib.Core.Path.{◌≡◌, refl, sym, ap, ◌∙◌}
use mathlib.Core.Bool.{Bool, true, false, and-eq-true_iff}
use mathlib.Core.List.{List}
use Prim.Native.Nat.{ℕ, zero, suc, ◌+◌, ◌*◌, ◌≤◌}
use native.Mathlib.Omega.{arith}
use borrow.Author.Tests.{eq-eqb, eqb-true, leb-true, le-ltb, ne_eqb}
use lib.Dec.{eqb, leb, ltb, eqb-suc-zero}
use lib.ListN.{length}
use Rattle.fields.specs.Elements.{doubled, powers_a, exponents_a}
use Rattle.fields.specs.Lists.{tabulate}
use Rattle.fields.specs.Places.{at, every, all_below}
use Rattle.fields.proofs.Instances.{field_a}
use Rattle.fields.proofs.Lists.{tabulate_at, tabulate_length, tabulate_same}
use Rattle.fields.proofs.Places.Tests.{every_same}
use Rattle.decoding.specs.Steps.ByTables.{root_value, root_values}
use Rattle.words.specs.Bits.{bit_of, number_of, bit_at, bits_of, bytes_of}
use Rattle.words.specs.ReedSolomon.{is_code_word}
use Rattle.words.specs.OuterCode.{outer_value, is_outer, outer_parity}
use Rattle.words.specs.InnerCode.{divisor, remainder, is_inner, inner_remainder, inner_parity}
use Rattle.words.specs.declared.Refusal.{Refusal}
use Rattle.words.specs.declared.Refusal.TheVariants.{PayloadLength, BlockLength, BufferSize, NoCodeWord, Uncorrectable, WordLength, Symbol, RowLength}
use Rattle.words.specs.Answers.{number, refusal, within, answered, first_of, outer_checked, outer_encoded, inner_checked, inner_encoded}
use Rattle.words.specs.Steps.Division.{outer_remainder}
use Rattle.words.specs.Steps.SixSymbols.{Packs, unpacked}
use Rattle.words.proofs.Bits.Numbers.{number_of_same}
use Rattle.words.proofs.Bits.Bytes.{bits_at, bits_below, bits_length}
use Rattle.words.proofs.Codes.Horner.{horner_same}
use Rattle.words.proofs.Codes.ReedSolomon.{root_is}
use Rattle.words.proofs.Steps.Joining.{root_values_made}

-- what no refusal tells: the length is right, the buffer fits, and the symbols are below 1,024
pub passed : (long fits symbols : Bool) → refusal long fits symbols ≡ 0 → (long ≡ true) × (fits ≡ true) × (symbols ≡ true)
unfolding refusal
passed true true true e = (refl, refl, refl)
passed true true false e = absurd (omega arith)
passed true false symbols e = absurd (omega arith)
passed false fits symbols e = absurd (omega arith)

-- no refusal has the number 0
pub some_number : (refusal : Refusal) → number refusal ≡ 0 → ⊥
some_number PayloadLength e = absurd (omega (arith, e))
some_number BlockLength e = absurd (omega (arith, e))
some_number BufferSize e = absurd (omega (arith, e))
some_number NoCodeWord e = absurd (omega (arith, e))
some_number Uncorrectable e = absurd (omega (arith, e))
some_number WordLength e = absurd (omega (arith, e))
some_number Symbol e = absurd (omega (arith, e))
some_number RowLength e = absurd (omega (arith, e))

-- a number is the answer that a refusal leaves
pub refused : (n : ℕ) (answer buffer : List ℕ) → (n ≡ 0 → ⊥) → ◌≡◌ {A = ℕ × List ℕ} (n, buffer) (answered n answer buffer)
unfolding answered
refused n answer buffer h = rw (ne_eqb n 0 h)

-- ---- outer words

below_one : (x : ℕ) → ltb x 1 ≡ eqb x 0
below_one zero = refl
below_one (suc x) = le-ltb (suc x) 1 (omega arith) ∙ sym (eqb-suc-zero x)

roots_tested : (w : List ℕ) → all_below 1024 w ≡ true → all_below 1 (root_values powers_a exponents_a w) ≡ every 16 (λ j. eqb (outer_value w j) 0)
unfolding all_below root_values
roots_tested w h =
    let f = root_value powers_a exponents_a w in
    rw (tabulate_length 16 f) (every_same 16 _ _ (λ j l. below_one (at (tabulate 16 f) j) ∙ ap (λ (v : ℕ). eqb v 0) (tabulate_at 16 f j 0 l ∙ root_is 10 1033 field_a w h j)))

-- a word that is not refused
module _ (w : List ℕ) (fits : Bool) (r : ℕ) (told : r ≡ refusal (within 17 1023 (length w)) fits (all_below 1024 w)) (none : r ≡ 0) where
  word_within : (leb 17 (length w) ≡ true) × (leb (length w) 1023 ≡ true)
  unfolding within
  word_within = (and-eq-true_iff (leb 17 (length w)) (leb (length w) 1023)).0 (passed _ _ _ (sym told ∙ none)).0

  pub word_least : 17 ≤ length w
  word_least = leb-true 17 (length w) word_within.0

  pub word_most : length w ≤ 1023
  word_most = leb-true (length w) 1023 word_within.1

  pub word_parity : 16 ≤ length w
  word_parity = omega (arith, word_least)

  pub word_symbols : all_below 1024 w ≡ true
  word_symbols = (passed _ _ _ (sym told ∙ none)).2

pub outer_refused : (w : List ℕ) (e : Refusal) → number e ≡ refusal (within 17 1023 (length w)) true (all_below 1024 w) → number e ≡ outer_checked w
unfolding outer_checked first_of
outer_refused w e told = rw (← told, ne_eqb (number e) 0 (some_number e))

module _ (w : List ℕ) (r : ℕ) (told : r ≡ refusal (within 17 1023 (length w)) true (all_below 1024 w)) where
  module _ (none : r ≡ 0) (es ls : List ℕ) (exp : es ≡ powers_a) (log : ls ≡ exponents_a) (h m l : ℕ) (p : Packs h m l (outer_remainder w)) (values : List ℕ)
      (v : values ≡ root_values es ls (unpacked h m l)) (b : Bool) (test : b ≡ all_below 1 values) where
    code_tested : b ≡ is_outer w
    unfolding is_code_word
    code_tested =
        let symbols = word_symbols w true r told none in
        let made = root_values_made w (word_parity w true r told none) symbols h m l p es ls values exp log v in
        test ∙ ap (all_below 1) made ∙ roots_tested w symbols ∙ rw symbols

    pub outer_accepted : b ≡ true → 0 ≡ outer_checked w
    unfolding outer_checked first_of
    outer_accepted t = rw (← told, none, ← code_tested, t)

    pub outer_no_code : b ≡ false → 4 ≡ outer_checked w
    unfolding outer_checked first_of
    outer_no_code t = rw (← told, none, ← code_tested, t)

pub encode_outer_refused : (d o : List ℕ) (e : Refusal) → number e ≡ refusal (within 1 1007 (length d)) (eqb (length o) 16) (all_below 1024 d) →
    ◌≡◌ {A = ℕ × List ℕ} (number e, o) (outer_encoded d o)
unfolding outer_encoded answered
encode_outer_refused d o e told = rw (← told, ne_eqb (number e) 0 (some_number e))

module _ (d o : List ℕ) (r : ℕ) (told : r ≡ refusal (within 1 1007 (length d)) (eqb (length o) 16) (all_below 1024 d)) where
  module _ (none : r ≡ 0) where
    pub outer_fits : length o ≡ 16
    outer_fits = eqb-true _ _ (passed _ _ _ (sym told ∙ none)).1

    pub outer_symbols : all_below 1024 d ≡ true
    outer_symbols = (passed _ _ _ (sym told ∙ none)).2

    pub outer_encoded_lem : (cells out : List ℕ) → cells ≡ outer_parity d → out ≡ cells → ◌≡◌ {A = ℕ × List ℕ} (0, out) (outer_encoded d o)
    unfolding outer_encoded answered
    outer_encoded_lem cells out e s = rw (← told, none, ← e, s)

-- ---- inner words

-- the bits of 255 bytes are a code word just where their remainder is zero
pub inner_tested : (w : List ℕ) → length w ≡ 255 → is_inner (bits_of w) ≡ eqb (remainder 88 divisor (bit_at w) 2040) 0
unfolding is_inner
inner_tested w e =
    let long : length (bits_of w) ≡ 2040 = bits_length w ∙ omega arith in
    rw (long, bits_below w, horner_same (doubled 88 divisor) (at (bits_of w)) (bit_at w) 2040 (λ i l. bits_at w i))

pub inner_refused : (w : List ℕ) → (length w ≡ 255 → ⊥) → 6 ≡ inner_checked w
unfolding inner_checked first_of refusal
inner_refused w n = rw (ne_eqb (length w) 255 n)

-- the parity bits of data lent as bytes, in bytes
parity_bytes_lem : (d : List ℕ) → bytes_of 11 (bit_of 88 (remainder 88 divisor (bit_at d) 2040)) ≡ bytes_of 11 (at (inner_parity (bits_of d)))
unfolding bytes_of inner_parity inner_remainder
parity_bytes_lem d =
    let r = remainder 88 divisor (at (bits_of d)) 2040 in
    ap (λ (x : ℕ). tabulate 11 (λ k. number_of 8 (λ j. bit_of 88 x (8 * k + j)))) (horner_same (doubled 88 divisor) (bit_at d) (at (bits_of d)) 2040 (λ i l. sym (bits_at d i)))
    ∙ tabulate_same 11 _ _ (λ k l. number_of_same 8 _ _ (λ j b. sym (tabulate_at 88 (bit_of 88 r) (8 * k + j) 0 (omega arith))))

module _ (d o : List ℕ) where
  pub encode_inner_length : (length d ≡ 244 → ⊥) → ◌≡◌ {A = ℕ × List ℕ} (6, o) (inner_encoded d o)
  unfolding inner_encoded refusal answered
  encode_inner_length n = rw (ne_eqb (length d) 244 n)

  module _ (e : length d ≡ 244) where
    pub encode_inner_space : (length o ≡ 11 → ⊥) → ◌≡◌ {A = ℕ × List ℕ} (3, o) (inner_encoded d o)
    unfolding inner_encoded refusal answered
    encode_inner_space n = rw (eq-eqb (length d) 244 e, ne_eqb (length o) 11 n)

    pub inner_encoded_lem : length o ≡ 11 → (v : ℕ) (out : List ℕ) → v ≡ remainder 88 divisor (bit_at d) 2040 → out ≡ bytes_of 11 (bit_of 88 v) →
        ◌≡◌ {A = ℕ × List ℕ} (0, out) (inner_encoded d o)
    unfolding inner_encoded refusal answered
    inner_encoded_lem f v out r s =
        let parity : out ≡ bytes_of 11 (at (inner_parity (bits_of d))) = s ∙ ap (λ (x : ℕ). bytes_of 11 (bit_of 88 x)) r ∙ parity_bytes_lem d in
        rw (eq-eqb (length d) 244 e, eq-eqb (length o) 11 f, parity)
