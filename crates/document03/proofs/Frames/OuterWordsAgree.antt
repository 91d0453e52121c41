-- Document 03's outer words of a payload are ours. Assumes nothing.
use mathlib.Core.Path.{◌≡◌, refl, sym, ap, ◌∙◌}
use mathlib.Core.List.{List, [], ◌∷◌, ◌++◌}
use Prim.Native.Nat.{ℕ, ◌+◌, ◌*◌, ◌≤◌, ◌<◌}
use native.Mathlib.Decide.{dec_lt}
use native.Mathlib.Omega.{arith}
use lib.ListN.{length, get_or, drop, length-append, length-drop}
use lib.Seq.{get_or-drop}
use Rattle.fields.specs.Lists.{tabulate}
use Rattle.fields.specs.Places.{at}
use Rattle.fields.proofs.Lists.{tabulate_length, tabulate_at, tabulate_same}
use Rattle.words.specs.Bits.{number_of, bit_at}
use Rattle.words.proofs.Bits.Numbers.{number_of_same}
use Rattle.frames.specs.Frames.{symbol_at, data_in, outer_data}
use Rattle.frames.specs.Frames as Frames
use Rattle.frames.proofs.Frames.FrameBits.{data_in_first, outer_data_below, outer_word_length}
use Rattle.document03.proofs.Words.Statements.{outer_checks}
use Rattle.document03.proofs.Words.Says.{bits_of, groups_from}
use Rattle.document03.proofs.Words.OuterAgrees.{parity_agrees}
use Rattle.document03.proofs.Words.BytesAgree.{groups_agree}
use Rattle.document03.proofs.Frames.Statements.{data_symbols, outer_word, words_from, outer_words}
use Rattle.document03.proofs.Frames.ListsAgree.{bits_long, bit_at_lem, pick_lt, filled_at, all_agree}

-- n symbols of ten bits: those of symbol s are g s 0, g s 1, ..
pub symbols_agree : (n : ℕ) (bs : List ℕ) (g : ℕ → ℕ → ℕ) → 10 * n ≤ length bs → ((s j : ℕ) → s < n → j < 10 → at bs (10 * s + j) ≡ g s j)
    → groups_from n 10 bs ≡ tabulate n (λ s. number_of 10 (g s))
symbols_agree n bs g h e = groups_agree 10 n bs h ∙ tabulate_same n _ _ (λ s l. number_of_same 10 _ _ (λ j m. e s j l m))

module _ (p : List ℕ) (long : length p ≡ 15296) where
  data_first : (w : ℕ) → w < 15 → data_symbols w (bits_of p) ≡ outer_data p w
  unfolding data_symbols outer_data data_in symbol_at
  data_first w h =
      let bs = bits_of p in
      pick_lt _ _ w 15 h
      ∙ symbols_agree 765 (drop (7650 * w) bs) (λ s j. bit_at p (7650 * w + 10 * s + j)) (omega (arith, length-drop (7650 * w) bs, bits_long p))
      (λ s j l m. get_or-drop (7650 * w) bs (10 * s + j) 0 ∙ bit_at_lem p _ ∙ ap (bit_at p) (omega arith))
      ∙ ap (λ (n : ℕ). tabulate n (λ s. number_of 10 (λ j. bit_at p (7650 * w + 10 * s + j)))) (sym (data_in_first w h))

  data_last : data_symbols 15 (bits_of p) ≡ outer_data p 15
  unfolding data_symbols outer_data data_in symbol_at
  data_last =
      let bs = bits_of p in
      let ds = drop 114750 bs in
      symbols_agree 762 (ds ++ (0 ∷ (0 ∷ []))) (λ s j. bit_at p (114750 + 10 * s + j))
      (omega (arith, length-append ds (0 ∷ (0 ∷ [])), length-drop 114750 bs, bits_long p))
      (λ s j l m. filled_at ds (10 * s + j) ∙ get_or-drop 114750 bs (10 * s + j) 0 ∙ bit_at_lem p _ ∙ ap (bit_at p) (omega arith))

  data_agrees : (w : ℕ) → w < 16 → data_symbols w (bits_of p) ≡ outer_data p w
  data_agrees w h = go (dec_lt w 15)
    where
      go : Dec (w < 15) → data_symbols w (bits_of p) ≡ outer_data p w
      go (yes l) = data_first w l
      go (no l) = let e : w ≡ 15 = omega arith in rw e data_last

  word_agrees : (w : ℕ) → w < 16 → outer_word w (bits_of p) ≡ Frames.outer_word p w
  unfolding Frames.outer_word
  word_agrees w h =
      ap (λ (d : List ℕ). d ++ outer_checks d) (data_agrees w h)
      ∙ ap (λ (q : List ℕ). outer_data p w ++ q) (parity_agrees (outer_data p w) (outer_data_below p w))

  pub words_agree : outer_words (bits_of p) ≡ Frames.outer_words p
  unfolding Frames.outer_words
  words_agree = all_agree (λ k w. words_from k w (bits_of p)) (λ w. outer_word w (bits_of p)) (Frames.outer_word p) 16 (λ w. refl) (λ k w. refl) word_agrees

-- outer word w of a payload has its data symbols and sixteen parity symbols
pub words_long : (p : List ℕ) → length (Frames.outer_words p) ≡ 16
unfolding Frames.outer_words
words_long p = tabulate_length 16 (Frames.outer_word p)

pub word_long : (p : List ℕ) (w : ℕ) → w < 16 → length (get_or (Frames.outer_words p) w []) ≡ data_in w + 16
unfolding Frames.outer_words
word_long p w h = ap length (tabulate_at 16 (Frames.outer_word p) w [] h) ∙ outer_word_length p w
