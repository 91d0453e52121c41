-- Document 03's inner words and outer words of a block are ours, and a block of bits is that of its bytes. Assumes nothing.
use mathlib.Core.Path.{◌≡◌, refl, sym, ap, ◌∙◌}
use mathlib.Core.Bool.{true}
use mathlib.Core.List.{List, [], ◌∷◌, ◌++◌}
use Prim.Native.Nat.{ℕ, ◌+◌, ◌-◌, ◌*◌, ◌≤◌, ◌<◌}
use native.Mathlib.Decide.{dec_lt}
use native.Mathlib.Omega.{arith}
use lib.Dec.{lit<}
use lib.ListN.{length, take, drop, length-append, length-drop}
use lib.Seq.{ext_get_or, get_or-take, get_or-drop, length-take-le}
use Rattle.fields.specs.Lists.{tabulate}
use Rattle.fields.specs.Places.{at}
use Rattle.fields.proofs.Lists.{tabulate_same}
use Rattle.fields.proofs.Places.Tests.{below_at}
use Rattle.fields.proofs.Places.Placing.{append_at}
use Rattle.words.specs.Bits.{number_of, bit_at, bits_of, bytes_of}
use Rattle.words.specs.InnerWords as InnerWords
use Rattle.words.proofs.Bits.Bytes.{bits_length, bits_at, bytes_length, bytes_bit}
use Rattle.frames.specs.Frames.{symbol_at, data_in}
use Rattle.frames.specs.Correction.{received_bit, received_symbol, received_word}
use Rattle.frames.proofs.Frames.FrameBits.{data_in_first}
use Rattle.frames.proofs.OuterSymbols.Received.{received_first, received_padding, received_last}
use Rattle.document03.proofs.Words.Statements.{all_bits}
use Rattle.document03.proofs.Words.WordsAgree.{all_below_lem}
use Rattle.document03.proofs.Frames.Statements.{inner_word, outer_of}
use Rattle.document03.proofs.Frames.ListsAgree.{pick_lt, filled_at}
use Rattle.document03.proofs.Frames.OuterWordsAgree.{symbols_agree}
use Rattle.document03.proofs.Frames.ParityBitsAgree.{every_agrees}

-- a list that holds the bits b 0, b 1, .. of a block
module _ (fs : List ℕ) (b : ℕ → ℕ) (same : (i : ℕ) → i < 130560 → at fs i ≡ b i) where
  pub inner_word_agrees : (k : ℕ) → k < 64 → inner_word k fs ≡ InnerWords.inner_word b k
  unfolding InnerWords.inner_word
  inner_word_agrees k h = every_agrees 2040 k fs ∙ tabulate_same 2040 _ _ (λ p l. same (64 * p + k) (omega arith))

  module _ (long : 130560 ≤ length fs) where
    outer_first : (w : ℕ) → w < 15 → outer_of w fs ≡ received_word b w
    unfolding received_word received_symbol symbol_at data_in
    outer_first w h =
        pick_lt _ _ w 15 h
        ∙ symbols_agree 781 (drop (7810 * w) fs) (λ s j. received_bit b (10 * (781 * w + s) + j)) (omega (arith, length-drop (7810 * w) fs))
        (λ s j l m. get_or-drop (7810 * w) fs (10 * s + j) 0 ∙ same (7810 * w + (10 * s + j)) (omega arith) ∙ ap b (omega arith)
        ∙ sym (received_first b (10 * (781 * w + s) + j) (omega arith)))
        ∙ ap (λ (n : ℕ). tabulate (n + 16) (λ s. number_of 10 (λ j. received_bit b (10 * (781 * w + s) + j)))) (sym (data_in_first w h))

    -- the last word: its bits, and with the two padding bits
    abbrev bs : List ℕ
    bs = take 7778 (drop 117150 fs)

    bs_long : length bs ≡ 7778
    bs_long = length-take-le 7778 (drop 117150 fs) (omega (arith, length-drop 117150 fs))

    bs_at : (i : ℕ) → i < 7778 → at bs i ≡ b (117150 + i)
    bs_at i l = get_or-take 7778 (drop 117150 fs) i 0 l ∙ get_or-drop 117150 fs i 0 ∙ same (117150 + i) (omega arith)

    abbrev rest : List ℕ
    rest = 0 ∷ (0 ∷ drop 7618 bs)

    start_long : length (take 7618 bs) ≡ 7618
    start_long = length-take-le 7618 bs (omega (arith, bs_long))

    padded_at : (i : ℕ) → i < 7780 → at (take 7618 bs ++ rest) i ≡ received_bit b (117150 + i)
    padded_at i h =
        append_at (take 7618 bs) rest 7618 i start_long
        (λ l. get_or-take 7618 bs i 0 l ∙ bs_at i (omega arith) ∙ sym (received_first b (117150 + i) (omega arith)))
        (λ g. append_at (0 ∷ (0 ∷ [])) (drop 7618 bs) 2 (i - 7618) refl
        (λ l. filled_at [] (i - 7618) ∙ sym (received_padding b (117150 + i) (omega arith) (omega arith)))
        (λ m. get_or-drop 7618 bs (i - 7618 - 2) 0 ∙ bs_at (7618 + (i - 7618 - 2)) (omega arith) ∙ ap b (omega arith)
        ∙ sym (received_last b (117150 + i) (omega arith))))

    outer_last : outer_of 15 fs ≡ received_word b 15
    unfolding received_word received_symbol symbol_at data_in
    outer_last =
        symbols_agree 778 (take 7618 bs ++ rest) (λ s j. received_bit b (10 * (781 * 15 + s) + j))
        (omega (arith, length-append (take 7618 bs) rest, start_long, length-drop 7618 bs, bs_long))
        (λ s j l m. padded_at (10 * s + j) (omega arith) ∙ ap (received_bit b) (omega arith))

    pub outer_of_agrees : (w : ℕ) → w < 16 → outer_of w fs ≡ received_word b w
    outer_of_agrees w h = go (dec_lt w 15)
      where
        go : Dec (w < 15) → outer_of w fs ≡ received_word b w
        go (yes l) = outer_first w l
        go (no l) = let e : w ≡ 15 = omega arith in rw e outer_last

-- the bytes of a block of bits have these bits
pub block_bits : (fs : List ℕ) → length fs ≡ 130560 → all_bits fs ≡ true → (i : ℕ) → at fs i ≡ bit_at (bytes_of 16320 (at fs)) i
block_bits fs long bits i =
    let bytes = bytes_of 16320 (at fs) in
    let below : (i : ℕ) → at fs i < 2 = below_at 2 fs (lit< tt) (sym (all_below_lem 2 all_bits refl (λ s ss. refl) fs) ∙ bits) in
    let e : fs ≡ bits_of bytes = ext_get_or 0 fs (bits_of bytes) (long ∙ sym (bits_length bytes ∙ omega (arith, bytes_length 16320 (at fs))))
    (λ i l. sym (bits_at bytes i ∙ bytes_bit 16320 (at fs) below i (omega arith))) in
    ap (λ (xs : List ℕ). at xs i) e ∙ bits_at bytes i
