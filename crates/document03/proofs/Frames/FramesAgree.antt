-- Document 03's frame of outer words, and of a payload, in bytes, is ours, and so is its test of a block. Assumes nothing.
use mathlib.Core.Path.{◌≡◌, refl, sym, ap, ap₂, ◌∙◌}
use mathlib.Core.Bool.{Bool, true, false, not, ◌&&◌}
use mathlib.Core.List.{List, [], ◌∷◌}
use Prim.Native.Nat.{ℕ, ◌+◌, ◌*◌, ◌<◌}
use native.Mathlib.Nat.{zero-add}
use native.Mathlib.Numerals.{one-add}
use native.Mathlib.Omega.{arith}
use lib.Dec.{eqb, eqb-suc-zero}
use lib.ListN.{length, get_or}
use Rattle.fields.specs.Places.{at, sum_to, differs}
use Rattle.fields.proofs.Places.Counting.{sum_same, apart_sum}
use Rattle.words.specs.Bits as Bits
use Rattle.words.specs.InnerWords.{with_parity}
use Rattle.words.proofs.Bits.Bytes.{bits_length, bits_at, bits_same}
use Rattle.frames.specs.Frames.{data_in, sent_bit, wrong_bits}
use Rattle.frames.specs.Frames as Frames
use Rattle.frames.specs.Answers as Answers
use Rattle.frames.proofs.Frames.FrameBits.{payload_of_length, sent_bit_lt, frame_length}
use Rattle.document03.proofs.Words.Statements.{when, same, apart}
use Rattle.document03.proofs.Words.Says.{bytes_of}
use Rattle.document03.proofs.Words.WordsAgree.{apart_agrees}
use Rattle.document03.proofs.Words.BytesAgree.{bytes_agree}
use Rattle.document03.proofs.Frames.Statements.{sent_from, frame_of_words}
use Rattle.document03.proofs.Frames.Says.{frame_bytes, is_frame}
use Rattle.document03.proofs.Frames.OuterWordsAgree.{words_agree, words_long, word_long}
use Rattle.document03.proofs.Frames.SentBitsAgree.{Words, sent_long, sent_at}
use Rattle.document03.proofs.Frames.ParityBitsAgree.{with_long, with_at}
use Rattle.document03.proofs.Frames.PayloadsAgree.{payload_agrees}

-- sixteen words of their lengths, and their frame
pub sixteen_words : (ws : List (List ℕ)) → length ws ≡ 16 → ((w : ℕ) → w < 16 → length (get_or ws w []) ≡ data_in w + 16) → Words 0 ws
sixteen_words ws sixteen long =
    record { count = omega arith; long = λ w l. long w (omega arith) ∙ ap (λ (k : ℕ). data_in k + 16) (omega arith) }

module _ (ws : List (List ℕ)) (h : Words 0 ws) where
  pub frame_long : length (frame_of_words ws) ≡ 130560
  frame_long = with_long (sent_from 0 ws) (sent_bit ws) (sent_long ws h) (sent_at ws h) (sent_bit_lt ws)

  pub frame_at : (i : ℕ) → i < 130560 → at (frame_of_words ws) i ≡ with_parity (sent_bit ws) i
  frame_at = with_at (sent_from 0 ws) (sent_bit ws) (sent_long ws h) (sent_at ws h) (sent_bit_lt ws)

  pub words_bytes : bytes_of (frame_of_words ws) ≡ Frames.frame_of_words ws
  unfolding Frames.frame_of_words
  words_bytes = bytes_agree 16320 (frame_of_words ws) (frame_long ∙ omega arith) ∙ bits_same 16320 _ _ (λ i l. frame_at i (omega arith))

-- that of a payload
pub payload_words : (p : List ℕ) → Words 0 (Frames.outer_words p)
payload_words p = sixteen_words (Frames.outer_words p) (words_long p) (word_long p)

pub frame_bytes_lem : (p : List ℕ) → length p ≡ 15296 → frame_bytes p ≡ Frames.frame_of p
unfolding Frames.frame_of
frame_bytes_lem p long = ap (λ (ws : List (List ℕ)). bytes_of (frame_of_words ws)) (words_agree p long) ∙ words_bytes (Frames.outer_words p) (payload_words p)

pub bytes_long : (p : List ℕ) → length (Frames.frame_of p) ≡ 16320
unfolding Frames.frame_of
bytes_long p = frame_length (Frames.outer_words p)

-- in how many bits blocks differ
pub apart_bits : (b c : List ℕ) → length b ≡ 16320 → length c ≡ 16320 → apart (Bits.bits_of b) (Bits.bits_of c) ≡ wrong_bits b c
unfolding wrong_bits
apart_bits b c eb ec =
    let xs = Bits.bits_of b in
    let ys = Bits.bits_of c in
    apart_agrees xs ys (bits_length b ∙ ap (λ (n : ℕ). 8 * n) (eb ∙ sym ec) ∙ sym (bits_length c))
    ∙ apart_sum xs ys ∙ ap (λ (n : ℕ). sum_to n (λ i. differs (at xs i) (at ys i))) (bits_length b ∙ omega arith)
    ∙ sum_same 130560 _ _ (λ i l. ap₂ differs (bits_at b i) (bits_at c i))

-- lists of one length are the same if they differ nowhere
same_first : (t s : Bool) (n : ℕ) → s ≡ eqb n 0 → (t && s) ≡ eqb (when (not t) 1 + n) 0
same_first true s n h = h ∙ ap (λ (k : ℕ). eqb k 0) (sym (zero-add n))
same_first false s n h = sym (ap (λ (k : ℕ). eqb k 0) (one-add n) ∙ eqb-suc-zero n)

same_apart : (xs ys : List ℕ) → length xs ≡ length ys → same xs ys ≡ eqb (apart xs ys) 0
same_apart [] [] e = refl
same_apart [] (y ∷ ys) e = absurd (omega arith)
same_apart (x ∷ xs) [] e = absurd (omega arith)
same_apart (x ∷ xs) (y ∷ ys) e = same_first (eqb x y) (same xs ys) (apart xs ys) (same_apart xs ys (omega arith))

pub is_frame_agrees : (b : List ℕ) → length b ≡ 16320 → is_frame b ≡ Answers.is_frame b
unfolding Answers.is_frame
is_frame_agrees b long =
    let q = Frames.payload_of b in
    let f = Frames.frame_of q in
    ap (λ (c : List ℕ). same c b) (ap frame_bytes (payload_agrees b long) ∙ frame_bytes_lem q (payload_of_length b))
    ∙ same_apart f b (bytes_long q ∙ sym long) ∙ ap (λ (n : ℕ). eqb n 0) (apart_agrees f b (bytes_long q ∙ sym long))
