-- Document 03's statements on frames. Assumes nothing.
use mathlib.Core.Path.{◌≡◌, refl, sym, ap, ap₂, ◌∙◌}
use mathlib.Core.Bool.{true, false, and-eq-true_iff}
use mathlib.Core.List.{List}
use Prim.Native.Nat.{ℕ, ◌≤◌, ◌<◌}
use native.Mathlib.Omega.{arith}
use borrow.Author.Tests.{eq-eqb}
use lib.Dec.{eqb}
use lib.ListN.{length}
use lib.Seq.{ext_get_or}
use Rattle.fields.specs.Places.{all_below}
use Rattle.words.specs.Bits as Bits
use Rattle.words.proofs.Bits.Bytes.{bits_length, bits_at}
use Rattle.frames.specs.Frames.{is_payload}
use Rattle.frames.specs.Frames as Frames
use Rattle.frames.proofs.Frames.FrameBits.{frame_length, frame_bit}
use Rattle.frames.proofs.Frames.FarApart.{far}
use Rattle.frames.proofs.Proved.{frame_laws}
use Rattle.document03.proofs.Words.Statements.{same, apart}
use Rattle.document03.proofs.Words.Says.{bits_of}
use Rattle.document03.proofs.Words.WordsAgree.{all_below_lem, same_refl}
use Rattle.document03.proofs.Frames.Statements.{frame_of_words, frame_of, payload_of, all_bytes}
use Rattle.document03.proofs.Frames.Says.{payload_long, frame_bytes}
use Rattle.document03.proofs.Frames.OuterWordsAgree.{words_agree}
use Rattle.document03.proofs.Frames.SentBitsAgree.{Words}
use Rattle.document03.proofs.Frames.PayloadsAgree.{payload_agrees}
use Rattle.document03.proofs.Frames.FramesAgree.{frame_long, frame_at, payload_words, frame_bytes_lem, bytes_long, apart_bits}

pub payload_is : (p : List ℕ) → length p ≡ 15296 → all_bytes p ≡ true → is_payload p ≡ true
unfolding is_payload
payload_is p long bytes =
    (and-eq-true_iff (eqb (length p) 15296) (all_below 256 p)).1 (eq-eqb (length p) 15296 long, sym (all_below_lem 256 all_bytes refl (λ b bs. refl) p) ∙ bytes)

differ : (p q : List ℕ) → same p q ≡ false → p ≡ q → ⊥
differ p q other e =
    let t : true ≡ false = sym (same_refl p) ∙ ap (same p) e ∙ other in
    let z : ◌≡◌ {A = ℕ} 0 1 = cc in
    omega arith

pub words_frame_agrees : (ws : List (List ℕ)) → Words 0 ws → frame_of_words ws ≡ Bits.bits_of (Frames.frame_of_words ws)
words_frame_agrees ws h =
    let f = Frames.frame_of_words ws in
    ext_get_or 0 (frame_of_words ws) (Bits.bits_of f) (frame_long ws h ∙ sym (bits_length f ∙ omega (arith, frame_length ws)))
    (λ i l. let n : i < 130560 = rw (frame_long ws h) at l in frame_at ws h i n ∙ sym (bits_at f i ∙ frame_bit ws i n))

pub frame_agrees : (p : List ℕ) → length p ≡ 15296 → frame_of p ≡ Bits.bits_of (Frames.frame_of p)
unfolding Frames.frame_of
frame_agrees p long = ap frame_of_words (words_agree p long) ∙ words_frame_agrees (Frames.outer_words p) (payload_words p)

-- demand 3, second half
pub second_half : (p q : List ℕ) → length p ≡ 15296 → length q ≡ 15296 → all_bytes p ≡ true → all_bytes q ≡ true → same p q ≡ false
    → 17 ≤ apart (frame_of p) (frame_of q)
second_half p q hp hq bp bq other =
    let e : apart (frame_of p) (frame_of q) ≡ Frames.wrong_bits (Frames.frame_of p) (Frames.frame_of q) =
    ap₂ apart (frame_agrees p hp) (frame_agrees q hq) ∙ apart_bits (Frames.frame_of p) (Frames.frame_of q) (bytes_long p) (bytes_long q) in
    omega (arith, e, far p q (payload_is p hp bp) (payload_is q hq bq) (differ p q other))

pub reads_back : (p : List ℕ) → length p ≡ payload_long → all_bytes p ≡ true → payload_of (bits_of (frame_bytes p)) ≡ p
reads_back p long bytes =
    ap (λ (b : List ℕ). payload_of (bits_of b)) (frame_bytes_lem p long) ∙ payload_agrees (Frames.frame_of p) (bytes_long p)
    ∙ frame_laws.payload_back p (payload_is p long bytes)
