-- Document 03's count of symbols with a wrong bit from a lost inner word is ours. Assumes nothing.
use mathlib.Core.Path.{◌≡◌, refl, sym, ap, ap₂, ◌∙◌}
use mathlib.Core.Bool.{Bool, true, false, not, ◌&&◌, ◌||◌, cond}
use mathlib.Core.List.{List}
use Prim.Native.Nat.{ℕ, zero, suc, ◌+◌, ◌*◌, ◌%◌, ◌≤◌, ◌<◌, min}
use native.Mathlib.Decide.{ℕ_discrete, dec_lt}
use native.Mathlib.Omega.{arith}
use borrow.Author.Tests.{lt-ltb, le-leb, lt-leb, ne_eqb}
use lib.Dec.{eqb}
use Rattle.fields.specs.Places.{at, sum_to, differs}
use Rattle.fields.proofs.Places.Counting.{sum_same}
use Rattle.words.specs.Bits.{bit_at}
use Rattle.frames.specs.Frames.{data_in}
use Rattle.frames.specs.Correction.{received_bit}
use Rattle.frames.specs.Demands.{wrong_at, lost_symbols}
use Rattle.frames.proofs.Frames.FrameBits.{data_in_le}
use Rattle.frames.proofs.OuterSymbols.Received.{received_first, received_padding, received_last}
use Rattle.document03.proofs.Fields.{is_in}
use Rattle.document03.proofs.Words.Statements.{when}
use Rattle.document03.proofs.Words.WordsAgree.{sum_first}
use Rattle.document03.proofs.Frames.Menders.{wrong_from, bits_before, bits_held, wrong_symbols, symbols_in}
use Rattle.document03.proofs.Frames.PassesAgree.{symbols_in_lem}

-- the bits of symbol s of outer word w, as h counts them: in the document's places, and in the outer symbols
module _ (h : ℕ → ℕ) where
  abbrev sent : ℕ → ℕ → ℕ
  sent w s = sum_to (bits_held w s) (λ j. h (7810 * w + bits_before w s + j))

  abbrev in_outer : ℕ → ℕ → ℕ
  in_outer w s = sum_to 10 (λ j. received_bit h (7810 * w + 10 * s + j))

  -- a symbol before the padding bits, the one that holds them, and one after them
  before_padding : (w s : ℕ) → bits_held w s ≡ 10 → bits_before w s ≡ 10 * s → 7810 * w + 10 * s + 10 ≤ 124768 → sent w s ≡ in_outer w s
  before_padding w s e f l =
      ap₂ (λ (n m : ℕ). sum_to n (λ j. h (7810 * w + m + j))) e f
      ∙ sum_same 10 _ _ (λ j m. sym (received_first h (7810 * w + 10 * s + j) (omega arith)))

  with_padding : sent 15 761 ≡ in_outer 15 761
  unfolding sum_to
  with_padding =
      let first = sum_same 8 (λ j. h (124760 + j)) (λ j. received_bit h (124760 + j)) (λ j m. sym (received_first h (124760 + j) (omega arith))) in
      first ∙ omega (arith, received_padding h 124768 (omega arith) (omega arith), received_padding h 124769 (omega arith) (omega arith))

  after_padding : (s : ℕ) → 761 < s → sent 15 s ≡ in_outer 15 s
  after_padding s l =
      let e : eqb s 761 ≡ false = ne_eqb s 761 (λ q. omega arith) in
      rw (e, lt-leb s 761 l)
      (sum_same 10 _ _ (λ j m. sym (received_last h (7810 * 15 + 10 * s + j) (omega arith) ∙ ap h (omega arith))))

  symbol_bits_lem : (w s : ℕ) → w < 16 → s < data_in w + 16 → sent w s ≡ in_outer w s
  symbol_bits_lem w s k l = go (dec_lt w 15) (dec_lt s 761) (ℕ_discrete s 761)
    where
      go : Dec (w < 15) → Dec (s < 761) → Dec (s ≡ 761) → sent w s ≡ in_outer w s
      go (yes a) _ _ = before_padding w s (rw (lt-ltb w 15 a)) (rw (lt-ltb w 15 a)) (omega (arith, data_in_le w))
      go (no a) (yes b) _ =
          let e : w ≡ 15 = omega arith in
          rw e (before_padding 15 s (rw (ne_eqb s 761 (λ q. omega arith))) (rw (le-leb s 761 (omega arith))) (omega arith))
      go (no a) (no b) (yes c) = let e : w ≡ 15 = omega arith in rw (e, c) with_padding
      go (no a) (no b) (no c) = let e : w ≡ 15 = omega arith in rw e (after_padding s (omega arith))

-- a test or another, counted
either : (t u : Bool) (m n : ℕ) → when t 1 ≡ m → when u 1 ≡ min 1 n → when (t || u) 1 ≡ min 1 (m + n)
either true u m n e f = omega arith
either false u m n e f = f ∙ omega arith

-- the bits of a block and of the sent frame, and their bytes
module _ (lost block frame b f : List ℕ) (same : (i : ℕ) → at block i ≡ bit_at b i) (same' : (i : ℕ) → at frame i ≡ bit_at f i) where
  abbrev wrong : ℕ → ℕ
  wrong i = cond (is_in (i % 64) lost) (wrong_at b f i) 0

  bit_agrees : (i : ℕ) → when (is_in (i % 64) lost && not (eqb (at block i) (at frame i))) 1 ≡ wrong i
  unfolding wrong_at differs
  bit_agrees i = ap₂ (λ (x y : ℕ). when (is_in (i % 64) lost && not (eqb x y)) 1) (same i) (same' i) ∙ go (is_in (i % 64) lost) (eqb (bit_at b i) (bit_at f i))
    where
      go : (t e : Bool) → when (t && not e) 1 ≡ cond t (cond e 0 1) 0
      go true true = refl
      go true false = refl
      go false e = refl

  bits_agree : (n i : ℕ) → when (wrong_from n i lost block frame) 1 ≡ min 1 (sum_to n (λ j. wrong (i + j)))
  unfolding sum_to
  bits_agree zero i = refl
  bits_agree (suc n) i =
      either (is_in (i % 64) lost && not (eqb (at block i) (at frame i))) (wrong_from n (suc i) lost block frame) _ _ (bit_agrees i ∙ ap wrong (omega arith))
      (bits_agree n (suc i) ∙ ap (min 1) (sum_same n _ _ (λ j l. ap wrong (omega arith))))
      ∙ ap (min 1) (sym (sum_first n (λ j. wrong (i + j))))

  module _ (w : ℕ) (k : w < 16) where
    abbrev counted : ℕ → ℕ
    counted s = min 1 (in_outer wrong w s)

    symbols_agree : (n s : ℕ) → s + n ≤ data_in w + 16 → wrong_symbols n s w lost block frame ≡ sum_to n (λ t. counted (s + t))
    unfolding sum_to
    symbols_agree zero s h = refl
    symbols_agree (suc n) s h =
        ap₂ ◌+◌ (bits_agree (bits_held w s) (7810 * w + bits_before w s) ∙ ap (min 1) (symbol_bits_lem wrong w s k (omega arith)) ∙ ap counted (omega arith))
        (symbols_agree n (suc s) (omega arith) ∙ sum_same n _ _ (λ t l. ap counted (omega arith)))
        ∙ sym (sum_first n (λ t. counted (s + t)))

    pub lost_symbols_agree : wrong_symbols (symbols_in w) 0 w lost block frame ≡ lost_symbols (λ k. is_in k lost) b f w
    unfolding lost_symbols
    lost_symbols_agree =
        ap (λ (n : ℕ). wrong_symbols n 0 w lost block frame) (symbols_in_lem w) ∙ symbols_agree (data_in w + 16) 0 (omega arith)
        ∙ sum_same (data_in w + 16) _ _ (λ t l. ap counted (omega arith))
