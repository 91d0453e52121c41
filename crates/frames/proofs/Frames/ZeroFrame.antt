-- The frame of the zero payload is the zero frame: words of zeros are code words. Assumes nothing.
use mathlib.Core.Path.{◌≡◌, refl, sym, ap, ◌∙◌}
use mathlib.Core.Bool.{true}
use mathlib.Core.List.{List}
use Prim.Native.Nat.{ℕ, ◌*◌, ◌-◌, ◌+◌, ◌/◌, ◌%◌, ◌<◌}
use lib.Arith.{lt-one}
use lib.Dec.{lit<}
use lib.ListN.{length}
use Rattle.fields.specs.Elements.{doubled, times_a}
use Rattle.fields.specs.Lists.{tabulate}
use Rattle.fields.specs.Places.{at, all_below}
use Rattle.fields.proofs.Doubling.{doubled_sum}
use Rattle.fields.proofs.Instances.{field_a}
use Rattle.fields.proofs.Lists.{tabulate_length, tabulate_lt}
use Rattle.fields.proofs.Places.Tests.{below_all}
use Rattle.words.specs.Bits.{bit_of, bit_at}
use Rattle.words.specs.ReedSolomon.{value_at_root}
use Rattle.words.specs.OuterCode.{power_a, is_outer}
use Rattle.words.specs.InnerCode.{divisor, is_inner}
use Rattle.words.specs.InnerWords.{inner_word}
use Rattle.words.proofs.Bits.Numbers.{bit_of_zero, number_of_bits_lem, number_of_same}
use Rattle.words.proofs.Codes.Horner.{horner_zero}
use Rattle.words.proofs.Codes.ReedSolomon.{is_code_lem}
use Rattle.words.proofs.Bits.Bytes.{bytes_same}
use Rattle.frames.specs.Frames.{symbol_at, is_block, data_in, frame_of, payload_place, payload_of}
use Rattle.frames.specs.Correction.{received_bit, received_symbol, received_word}
use Rattle.frames.proofs.OuterSymbols.Received.{received_cases, code_words_frame}

-- zero in every place, past the end too
abbrev Zero : List ℕ → Type 0
Zero w = (i : ℕ) → at w i ≡ 0

zero_table : (n : ℕ) (f : ℕ → ℕ) → ((i : ℕ) → f i ≡ 0) → Zero (tabulate n f)
zero_table n f z i = lt-one (tabulate_lt 1 n f (lit< tt) (λ i. rw (z i) (lit< tt)) i)

zero_below : (q : ℕ) (w : List ℕ) → 0 < q → Zero w → all_below q w ≡ true
zero_below q w h z = below_all q w (λ i l. rw (z i) h)

zero_outer : (w : List ℕ) → Zero w → is_outer w ≡ true
unfolding value_at_root
zero_outer w z =
    is_code_lem 10 1033 0 16 w (zero_below 1024 w (lit< tt) z)
    (λ j l. horner_zero (λ v. times_a v (power_a (0 + j))) (λ u v. field_a.sum_times u v (power_a (0 + j))) (at w) z (length w))

zero_inner : (w : List ℕ) → length w ≡ 2040 → Zero w → is_inner w ≡ true
unfolding is_inner
zero_inner w long z = rw (long, zero_below 2 w (lit< tt) z, horner_zero (doubled 88 divisor) (doubled_sum 88 divisor) (at w) z 2040)

zero_bit : (bytes : List ℕ) → Zero bytes → (i : ℕ) → bit_at bytes i ≡ 0
unfolding bit_at
zero_bit bytes z i = rw (z (i / 8)) (bit_of_zero 8 (i % 8))

module _ (b : ℕ → ℕ) (z : (i : ℕ) → b i ≡ 0) where
  zero_symbols : (r : ℕ) → received_bit b r ≡ 0
  zero_symbols r = received_cases (λ x. x ≡ 0) b r (λ l. z r) (λ g l. refl) (λ g. z (r - 2))

  zero_symbol : (t : ℕ) → received_symbol b t ≡ 0
  unfolding received_symbol symbol_at
  zero_symbol t = number_of_same 10 _ (bit_of 10 0) (λ j l. zero_symbols (10 * t + j) ∙ sym (bit_of_zero 10 j)) ∙ number_of_bits_lem 10 0 (lit< tt)

  zero_outers : (w : ℕ) → is_outer (received_word b w) ≡ true
  unfolding received_word
  zero_outers w = zero_outer _ (zero_table (data_in w + 16) _ (λ s. zero_symbol (781 * w + s)))

  zero_inners : (k : ℕ) → is_inner (inner_word b k) ≡ true
  unfolding inner_word
  zero_inners k = zero_inner _ (tabulate_length 2040 _) (zero_table 2040 _ (λ p. z (64 * p + k)))

pub zero_frame : (p f : List ℕ) → length p ≡ 15296 → length f ≡ 16320 → Zero p → Zero f → frame_of p ≡ f
unfolding is_block payload_of
zero_frame p f lp lf zp zf =
    let bits = zero_bit f zf in
    let block : is_block f ≡ true = rw (lf, zero_below 256 f (lit< tt) zf) in
    let same : payload_of f ≡ p =
    bytes_same 15296 (λ i. bit_at f (payload_place i)) p lp (zero_below 256 p (lit< tt) zp) (λ i l. bits (payload_place i) ∙ sym (zero_bit p zp i)) in
    ap frame_of (sym same) ∙ code_words_frame f block (λ w k. zero_outers (bit_at f) bits w) (λ k m. zero_inners (bit_at f) bits k)
