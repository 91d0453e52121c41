-- Document 03 on correction: its definitions as it writes them, and its statements `TwoPasses` and `Demand3`. Its test `is_in` is that of the fields.
-- Assumes nothing.
use mathlib.Core.Path.{◌≡◌}
use mathlib.Core.Logic.{◌⊎◌}
use mathlib.Core.Bool.{Bool, true, false, ◌&&◌, ◌||◌, not}
use mathlib.Core.List.{List, [], ◌∷◌}
use Prim.Native.Nat.{ℕ, zero, suc, ◌+◌, ◌-◌, ◌*◌, ◌%◌, ◌≤◌, ◌<◌}
use lib.Dec.{eqb, ltb, leb}
use lib.ListN.{length, get_or}
use Rattle.document03.proofs.Fields.{pick, is_in}
use Rattle.document03.proofs.Words.Statements.{when, is_outer, is_inner, is_near, apart, same, all_bits}
use Rattle.document03.proofs.Frames.Statements.{inner_word, outer_of, frame_of_words, frame_of, all_bytes}

-- inner pass: the code word within eight, or the word as received
pub record Kept (w x : List ℕ) : Type 0 where
  pub as_received : same x w ≡ true
  pub none_near : (c : List ℕ) → is_inner c ≡ true → is_near w c ≡ false

abbrev pub InnerDone : List ℕ → List ℕ → Type 0
InnerDone w x = ((is_inner x ≡ true) × (is_near w x ≡ true)) ⊎ Kept w x

pub record InnerPass (block mid : List ℕ) : Type 0 where
  pub as_long : length mid ≡ length block
  pub words : (k : ℕ) → k < 64 → InnerDone (inner_word k block) (inner_word k mid)

-- outer pass: the code word within eight symbols, word 15 only one whose fill bits are zero
abbrev pub fill_zero : ℕ → List ℕ → Bool
fill_zero w ss = ltb w 15 || eqb (get_or ss 761 0 % 4) 0

abbrev pub is_permitted : ℕ → List ℕ → Bool
is_permitted w ss = is_outer ss && (eqb (length ss) (pick (ltb w 15) 781 778) && fill_zero w ss)

abbrev pub nth_w : List (List ℕ) → ℕ → List ℕ
nth_w [] i = []
nth_w (x ∷ xs) zero = x
nth_w (x ∷ xs) (suc i) = nth_w xs i

abbrev pub count_w : List (List ℕ) → ℕ
count_w [] = 0
count_w (x ∷ xs) = suc (count_w xs)

pub record OuterPass (mid : List ℕ) (ws : List (List ℕ)) : Type 0 where
  pub sixteen : count_w ws ≡ 16
  pub words : (w : ℕ) → w < 16 → (is_permitted w (nth_w ws w) ≡ true) × (is_near (outer_of w mid) (nth_w ws w) ≡ true)

-- mended: the restored frame; beyond reach: an outer word with none permitted within eight
pub record Mends (block frame : List ℕ) : Type 0 where
  pub mid : List ℕ
  pub inner : InnerPass block mid
  pub ws : List (List ℕ)
  pub outer : OuterPass mid ws
  pub restored : frame ≡ frame_of_words ws

pub record Beyond (block : List ℕ) : Type 0 where
  pub mid : List ℕ
  pub inner : InnerPass block mid
  pub which : ℕ
  pub below : which < 16
  pub none_near : (c : List ℕ) → is_permitted which c ≡ true → is_near (outer_of which mid) c ≡ false

-- the report: places that differ in each inner word
abbrev pub report_from : ℕ → ℕ → List ℕ → List ℕ → List ℕ
report_from zero k block frame = []
report_from (suc n) k block frame = apart (inner_word k block) (inner_word k frame) ∷ report_from n (suc k) block frame

abbrev pub report_of : List ℕ → List ℕ → List ℕ
report_of block frame = report_from 64 0 block frame

abbrev pub total : List ℕ → ℕ
total [] = 0
total (x ∷ xs) = x + total xs

-- each block is mended or beyond reach, and in one way
pub record TwoPasses : Type 0 where
  pub one_or_other : (block : List ℕ) → length block ≡ 130560 → all_bits block ≡ true → ((frame : List ℕ) × Mends block frame) ⊎ Beyond block
  pub one_frame : (block f g : List ℕ) → all_bits block ≡ true → Mends block f → Mends block g → f ≡ g
  pub not_both : (block f : List ℕ) → all_bits block ≡ true → Mends block f → Beyond block → true ≡ false

-- demand 3: inner words that lie beyond eight of every inner code word
abbrev pub Lost : List ℕ → Type 0
Lost w = (c : List ℕ) → is_inner c ≡ true → is_near w c ≡ false

-- symbols of outer word w that have a wrong bit from an inner word of some list: place s holds frame bits from a first to a last
abbrev pub wrong_from : ℕ → ℕ → List ℕ → List ℕ → List ℕ → Bool
wrong_from zero i lost block sent = false
wrong_from (suc n) i lost block sent = (is_in (i % 64) lost && not (eqb (get_or block i 0) (get_or sent i 0))) || wrong_from n (suc i) lost block sent

-- the frame bits of symbol s: word 15's symbol 761 sends eight, later ones start two earlier
abbrev pub bits_before : ℕ → ℕ → ℕ
bits_before w s = pick (ltb w 15 || leb s 761) (10 * s) (10 * s - 2)

abbrev pub bits_held : ℕ → ℕ → ℕ
bits_held w s = pick (ltb w 15 || not (eqb s 761)) 10 8

abbrev pub wrong_symbols : ℕ → ℕ → ℕ → List ℕ → List ℕ → List ℕ → ℕ
wrong_symbols zero s w lost block sent = 0
wrong_symbols (suc n) s w lost block sent = when (wrong_from (bits_held w s) (7810 * w + bits_before w s) lost block sent) 1 + wrong_symbols n (suc s) w lost block sent

abbrev pub symbols_in : ℕ → ℕ
symbols_in w = pick (ltb w 15) 781 778

pub record Demand3 : Type 0 where
  -- lost names just the inner words beyond eight of every code word; the others have at most eight wrong bits
  pub first_half : (payload block lost : List ℕ) → length payload ≡ 15296 → all_bytes payload ≡ true → length block ≡ 130560 → all_bits block ≡ true → ((k : ℕ) → k < 64 → is_in k lost ≡ true → Lost (inner_word k block)) → ((k : ℕ) → k < 64 → is_in k lost ≡ false → apart (inner_word k block) (inner_word k (frame_of payload)) ≤ 8) → ((w : ℕ) → w < 16 → wrong_symbols (symbols_in w) 0 w lost block (frame_of payload) ≤ 8) → Mends block (frame_of payload)
  pub second_half : (p q : List ℕ) → length p ≡ 15296 → length q ≡ 15296 → all_bytes p ≡ true → all_bytes q ≡ true → same p q ≡ false → 17 ≤ apart (frame_of p) (frame_of q)
