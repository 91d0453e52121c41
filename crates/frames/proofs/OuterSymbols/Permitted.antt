-- The code words that the outer pass may restore: bounded-distance decoding finds them, and the outer words of a payload are such. Assumes nothing.
use mathlib.Core.Path.{◌≡◌, refl, sym, ap, ◌∙◌}
use mathlib.Core.Bool.{true, false, and-eq-true_iff}
use mathlib.Core.List.{List, []}
use mathlib.Core.Option.{none, some}
use Prim.Native.Nat.{ℕ, ◌+◌, ◌*◌, ◌%◌, ◌≤◌, ◌<◌}
use native.Mathlib.Decide.{dec_le, dec_lt, ℕ_discrete}
use native.Mathlib.Omega.{arith}
use borrow.Author.Tests.{lt-ltb, eqb-true, eq-eqb}
use lib.ListN.{length, get_or}
use Rattle.fields.specs.Places.{at, apart}
use Rattle.fields.proofs.Lists.{tabulate_at}
use Rattle.fields.proofs.Places.Tests.{below_all}
use Rattle.words.specs.Bits.{bit_of, number_of}
use Rattle.words.specs.OuterCode.{is_outer}
use Rattle.words.specs.Nearest.{nearest, Decodes}
use Rattle.words.proofs.Bits.Bytes.{number_of_bits}
use Rattle.words.proofs.Codes.OuterWords.{outer_is}
use Rattle.words.proofs.Codes.Nearest.{nearest_lost, decodes}
use Rattle.words.proofs.Codes.Proved.{codes}
use Rattle.frames.specs.Frames.{outer_word, outer_words, outer_bit}
use Rattle.frames.specs.Correction.{is_padded, is_permitted}
use Rattle.frames.proofs.Frames.FrameBits.{outer_code, symbols_bit}
use Rattle.frames.proofs.OuterSymbols.Received.{payload_padding}

pub permitted_is : (w : ℕ) (c : List ℕ) → is_permitted w c ≡ true → (is_outer c ≡ true) × (is_padded w c ≡ true)
unfolding is_permitted
permitted_is w c h = (and-eq-true_iff (is_outer c) (is_padded w c)).0 h

pub is_permitted_lem : (w : ℕ) (c : List ℕ) → is_outer c ≡ true → is_padded w c ≡ true → is_permitted w c ≡ true
unfolding is_permitted
is_permitted_lem w c h p = (and-eq-true_iff (is_outer c) (is_padded w c)).1 (h, p)

pub permitted_nearest : (w n : ℕ) → n ≤ 1023 → Decodes (is_permitted w) 1024 8 n
permitted_nearest w n short =
    decodes (is_permitted w) 1024 8 n (λ c h. below_all 1024 c (λ i l. (outer_is c (permitted_is w c h).0).symbols i))
    (λ c d hc hd lc ld. codes.outer_far c d (permitted_is w c hc).0 (permitted_is w d hd).0 (lc ∙ sym ld) (omega arith))

-- the permitted code word near a word is the outer code word near it, if that is padded
module _ (w : ℕ) (u : List ℕ) (short : length u ≤ 1023) where
  outer : Decodes is_outer 1024 8 (length u)
  outer = codes.outer_nearest (length u) short

  pub permitted_none : nearest is_outer 1024 8 u ≡ none → nearest (is_permitted w) 1024 8 u ≡ none
  permitted_none e = nearest_lost (is_permitted w) 1024 8 u (λ d h l. outer.none_means_none u d refl e l (permitted_is w d h).0)

  module _ (c : List ℕ) (e : nearest is_outer 1024 8 u ≡ some c) where
    pub permitted_some : is_padded w c ≡ true → nearest (is_permitted w) 1024 8 u ≡ some c
    permitted_some p = let s = outer.sound u c refl e in (permitted_nearest w (length u) short).complete u c refl s.0 (is_permitted_lem w c s.1 p) s.2

    pub permitted_not : is_padded w c ≡ false → nearest (is_permitted w) 1024 8 u ≡ none
    permitted_not f = nearest_lost (is_permitted w) 1024 8 u (λ d h l. go d h l (dec_le (apart u d) 8))
      where
        go : (d : List ℕ) → is_permitted w d ≡ true → length d ≡ length u → Dec (apart u d ≤ 8) → 8 < apart u d
        go d h l (yes near) =
            let t = permitted_is w d h in
            let same : some c ≡ some d = sym e ∙ outer.complete u d refl l t.0 near in
            let padded : is_padded w d ≡ true = t.1 in
            let z : ◌≡◌ {A = ℕ} 0 1 = cc in
            absurd (omega arith)
        go d h l (no far) = omega arith

-- ---- padding

-- the two low bits of a symbol, as a number
low_bits : (x : ℕ) → 2 * bit_of 10 x 8 + bit_of 10 x 9 ≡ x % 4
unfolding number_of
low_bits x = omega (arith, number_of_bits 10 x 8 2 (omega arith))

-- the padding bits of the outer symbols are those of symbol 761 of word 15
module _ (ws : List (List ℕ)) where
  abbrev last : ℕ
  last = at (get_or ws 15 []) 761

  padding_bit : (j : ℕ) → j < 10 → outer_bit ws (124760 + j) ≡ bit_of 10 last j
  padding_bit j l = symbols_bit ws 15 761 j (omega arith) l

  -- they are zeros where word 15 is padded, and it is padded where they are
  pub padded_symbols : is_padded 15 (get_or ws 15 []) ≡ true → (r : ℕ) → 124768 ≤ r → r < 124770 → outer_bit ws r ≡ 0
  unfolding is_padded
  padded_symbols h r g l =
      let e : r ≡ 124760 + r % 10 = omega arith in
      ap (outer_bit ws) e ∙ padding_bit (r % 10) (omega arith) ∙ go (ℕ_discrete (r % 10) 8)
    where
      zero_low : 2 * bit_of 10 last 8 + bit_of 10 last 9 ≡ 0
      zero_low = low_bits last ∙ eqb-true (last % 4) 0 h

      go : Dec (r % 10 ≡ 8) → bit_of 10 last (r % 10) ≡ 0
      go (yes e) = rw e (omega (arith, zero_low))
      go (no n) = let e : r % 10 ≡ 9 = omega arith in rw e (omega (arith, zero_low))

  symbols_padded : ((r : ℕ) → 124768 ≤ r → r < 124770 → outer_bit ws r ≡ 0) → is_padded 15 (get_or ws 15 []) ≡ true
  unfolding is_padded
  symbols_padded h =
      let first : bit_of 10 last 8 ≡ 0 = sym (padding_bit 8 (omega arith)) ∙ h 124768 (omega arith) (omega arith) in
      let second : bit_of 10 last 9 ≡ 0 = sym (padding_bit 9 (omega arith)) ∙ h 124769 (omega arith) (omega arith) in
      eq-eqb (last % 4) 0 (omega (arith, low_bits last))

-- the outer words of a payload are permitted
pub payload_permitted : (p : List ℕ) → length p ≡ 15296 → (w : ℕ) → w < 16 → is_permitted w (outer_word p w) ≡ true
unfolding is_padded outer_words
payload_permitted p long w k = is_permitted_lem w (outer_word p w) (outer_code p w) (go (dec_lt w 15))
  where
    go : Dec (w < 15) → is_padded w (outer_word p w) ≡ true
    go (yes l) = rw (lt-ltb w 15 l)
    go (no g) =
        let e : w ≡ 15 = omega arith in
        rw e (ap (is_padded 15) (sym (tabulate_at 16 (outer_word p) 15 [] (omega arith))) ∙ symbols_padded (outer_words p) (payload_padding p long))
