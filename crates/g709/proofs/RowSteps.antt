-- Rows are written and tested by the division of their data. Assumes nothing.
use mathlib.Core.Path.{◌≡◌, refl, sym, ap, ap₂, ◌∙◌}
use mathlib.Core.Bool.{Bool, true, false, ◌&&◌}
use mathlib.Core.List.{List, ◌++◌}
use Prim.Native.Nat.{ℕ, suc, ◌+◌, ◌-◌, ◌*◌, ◌/◌, ◌%◌, ◌≤◌, ◌<◌}
use native.Mathlib.Decide.{dec_lt}
use native.Mathlib.Nat.{zero-add}
use native.Mathlib.Omega.{arith}
use borrow.Author.Tests.{eq-eqb, ne_eqb, eqb-true}
use borrow.Rule.Slice.PartMut.{put_mid}
use lib.Dec.{eqb, lit<}
use lib.ListN.{length, take, drop, length-append, get_or-append}
use Rattle.std.specs.Prelude.{nat_eq}
use Rattle.std.specs.Cmp.Lexicographic.{pointwise, same_text, bytes_decides}
use Rattle.std.proofs.lemmas.List.{get_or-drop, get_or-take, length-drop, length-take-le}
use Rattle.words.specs.declared.Refusal.{Refusal}
use Rattle.words.specs.declared.Refusal.TheVariants.{PayloadLength, BlockLength, BufferSize, NoCodeWord, Uncorrectable, WordLength, Symbol, RowLength}
use Rattle.words.specs.Corrections.{number}
use lib.Seq.{ext_get_or, get_or-append-add}
use Rattle.fields.proofs.Lists.{tabulate_at, tabulate_is, tabulate_length}
use Rattle.fields.specs.Places.{at, every}
use Rattle.words.specs.Answers.{answered}
use Rattle.words.specs.ReedSolomon.{generator_of}
use Rattle.fields.proofs.Places.Tests.{tests_agree, every_at, every_true}
use Rattle.words.proofs.Codes.Packing.{divided_same}
use Rattle.fields.proofs.Places.Differences.{apart_none}
use Rattle.fields.specs.Elements.{times_c}
use Rattle.g709.specs.Rows.{byte_parity, byte_data, byte_word, block_of, payload_of_rows, is_written, received_bytes}
use Rattle.g709.specs.Answers.{block_encoded, block_checked, block_extracted}
use Rattle.g709.specs.Steps.Registers.{over, registers, row_divided, row_written, agree, row_agrees}
use Rattle.g709.proofs.Overlays.{over_length, over_in, over_front, over_is, part_at, part_length, part_written, part_copied}
use Rattle.g709.proofs.Lanes.{lane, registers_at, registers_length, same_registers}
use Rattle.g709.proofs.Folds.{parity_lane}
use Rattle.g709.proofs.Rows.{row_to_word, own_words, row_begins, same_written, data_length, block_length}

-- ---- the registers are the parity

data_at : (p : List ℕ) (r k t : ℕ) → k < 16 → t < 239 → at (byte_data p (16 * r + k)) t ≡ at p (3824 * r + (16 * t + k))
unfolding byte_data
data_at p r k t hk ht = tabulate_at 239 _ t 0 ht ∙ ap (at p) (omega arith)

data_parity : (p : List ℕ) (r k : ℕ) → k < 16 → byte_parity (byte_data p (16 * r + k)) ≡ lane (λ i. at p (3824 * r + i)) 239 k
data_parity p r k hk =
    ap byte_parity (tabulate_is 239 _ (byte_data p (16 * r + k)) 0 (data_length p (16 * r + k)) (λ t l. data_at p r k t hk l)) ∙ parity_lane (λ i. at p (3824 * r + i)) k

divided_at : (p : List ℕ) (from i : ℕ) → i < 256 → at (row_divided p from 239) i ≡ at (lane (λ i. at p (from + i)) 239 (i % 16)) (i / 16)
unfolding row_divided
divided_at p from i l =
    let e : i ≡ 16 * (i / 16) + i % 16 = omega arith in
    ap (at (registers (λ i. at p (from + i)) 239)) e ∙ registers_at (λ i. at p (from + i)) 239 (i / 16) (i % 16) (omega arith) (omega arith)

word_parity : (p : List ℕ) (w c : ℕ) → at (byte_word p w) (239 + c) ≡ at (byte_parity (byte_data p w)) c
unfolding byte_word
word_parity p w c = ap (λ (n : ℕ). at (byte_data p w ++ byte_parity (byte_data p w)) (n + c)) (sym (data_length p w)) ∙ get_or-append-add (byte_data p w) (byte_parity (byte_data p w)) c 0

-- a row of the block of a payload ends with the registers of its data
pub row_ends : (n : ℕ) (p : List ℕ) (r i : ℕ) → r < n → i < 256 → at (block_of n p) (4080 * r + (3824 + i)) ≡ at (row_divided p (3824 * r) 239) i
row_ends n p r i h l =
    let m : (3824 + i) % 16 ≡ i % 16 = omega arith in
    let q : (3824 + i) / 16 ≡ 239 + i / 16 = omega arith in
    row_to_word (block_of n p) r (3824 + i) (omega arith)
    ∙ ap₂ (λ (k c : ℕ). at (received_bytes (block_of n p) (16 * r + k)) c) m q
    ∙ ap (λ (c : List ℕ). at c (239 + i / 16)) (own_words n p (16 * r + i % 16) (omega arith))
    ∙ word_parity p (16 * r + i % 16) (i / 16)
    ∙ ap (λ (c : List ℕ). at c (i / 16)) (data_parity p r (i % 16) (omega arith))
    ∙ sym (divided_at p (3824 * r) i l)

-- ---- writing

pub row_stored : (p o R x y : List ℕ) (k : ℕ) → length p ≡ 3824 → length o ≡ 4080 → R ≡ registers (at p) 239 → x ≡ p → y ≡ take 256 R → k ≡ 256 → put_mid 3824 k (x ++ drop 3824 o) y ≡ row_written p 0 o
unfolding row_written row_divided
row_stored p o R x y k long room er ex ey ek =
    part_copied (x ++ drop 3824 o) 3824 256 k y R 0 256 ey ek refl (omega (arith, R_long)) (omega (arith, a_long))
    ∙ ap (λ (a : List ℕ). over a 3824 256 (λ i. at R (0 + i))) front
    ∙ ap (λ (R : List ℕ). over (over o 0 3824 (λ i. at p (0 + i))) 3824 256 (λ i. at R (0 + i)))
    (er ∙ same_registers (at p) (λ i. at p (0 + i)) (λ i l. ap (at p) (sym (zero-add i))))
  where
    R_long : length R ≡ 272
    R_long = ap length er ∙ registers_length (at p) 239

    x_long : length x ≡ 3824
    x_long = ap length ex ∙ long

    a_long : length (x ++ drop 3824 o) ≡ 4080
    a_long = length-append x (drop 3824 o) ∙ omega (arith, x_long, length-drop 3824 o)

    front : x ++ drop 3824 o ≡ over o 0 3824 (λ i. at p (0 + i))
    front =
        over_is o 0 3824 (λ i. at p (0 + i)) (x ++ drop 3824 o) (a_long ∙ sym room)
        (λ i l. get_or-append x (drop 3824 o) 0 (0 + i) (omega (arith, x_long)) ∙ ap (λ (x : List ℕ). at x (0 + i)) ex)
        (λ i l. absurd (omega arith))
        (λ i l.
        let e : i ≡ length x + (i - 3824) = omega (arith, x_long) in
        let f : 3824 + (i - 3824) ≡ i = omega arith in
        ap (at (x ++ drop 3824 o)) e ∙ get_or-append-add x (drop 3824 o) (i - 3824) 0 ∙ get_or-drop 3824 o (i - 3824) 0 ∙ ap (at o) f)

-- the parity among the registers, as any front of them, and its room in the row
pub parity_long : (n : ℕ) (d : ℕ → ℕ) (R : List ℕ) → n ≤ 272 → R ≡ registers d 239 → n ≡ length (take n R)
parity_long n d R h e = let l : length R ≡ 272 = ap length e ∙ registers_length d 239 in sym (length-take-le n R (omega arith))

pub parity_room : (d : ℕ → ℕ) (R x o : List ℕ) → R ≡ registers d 239 → length x ≡ length (take 3824 o) → length o ≡ 4080 → length (take 256 (drop 3824 (x ++ drop 3824 o))) ≡ length (take 256 R)
parity_room d R x o e long room =
    part_length 256 3824 (x ++ drop 3824 o) (omega (arith, length-append x (drop 3824 o), long, length-take-le 3824 o (omega arith), length-drop 3824 o)) ∙ parity_long 256 d R (omega arith) e

written_length : (p o : List ℕ) (r : ℕ) → length (row_written p r o) ≡ length o
unfolding row_written
written_length p o r = over_length _ (4080 * r + 3824) 256 _ ∙ over_length o (4080 * r) 3824 _

written_data : (p o : List ℕ) (r j : ℕ) → 4080 * r + 4080 ≤ length o → j < 3824 → at (row_written p r o) (4080 * r + j) ≡ at p (3824 * r + j)
unfolding row_written
written_data p o r j room h = over_front _ (4080 * r + 3824) 256 _ (4080 * r + j) (omega arith) ∙ over_in o (4080 * r) 3824 _ j h (omega arith)

written_parity : (p o : List ℕ) (r i : ℕ) → 4080 * r + 4080 ≤ length o → i < 256 → at (row_written p r o) (4080 * r + (3824 + i)) ≡ at (row_divided p (3824 * r) 239) i
unfolding row_written
written_parity p o r i room h =
    let e : 4080 * r + (3824 + i) ≡ 4080 * r + 3824 + i = omega arith in
    ap (at (row_written p r o)) e
    ∙ over_in (over o (4080 * r) 3824 (λ i. at p (3824 * r + i))) (4080 * r + 3824) 256 (λ i. at (row_divided p (3824 * r) 239) (0 + i)) i h (omega (arith, over_length o (4080 * r) 3824 (λ i. at p (3824 * r + i))))
    ∙ ap (at (row_divided p (3824 * r) 239)) (omega arith)

-- a row written by itself
part_written_row : (n : ℕ) (p part mid : List ℕ) (r j : ℕ) → r < n → length mid ≡ 4080 → ((i : ℕ) → i < 3824 → at part i ≡ at p (3824 * r + i)) → j < 4080 →
    at (row_written part 0 mid) j ≡ at (block_of n p) (4080 * r + j)
unfolding row_divided
part_written_row n p part mid r j h long same l = go (dec_lt j 3824)
  where
    go : Dec (j < 3824) → at (row_written part 0 mid) j ≡ at (block_of n p) (4080 * r + j)
    go (yes k) =
        let e : j ≡ 4080 * 0 + j = omega arith in
        ap (at (row_written part 0 mid)) e ∙ written_data part mid 0 j (omega arith) k ∙ ap (at part) (omega arith) ∙ same j k ∙ sym (row_begins n p r j h k)
    go (no k) =
        let e : j ≡ 4080 * 0 + (3824 + (j - 3824)) = omega arith in
        let f : 3824 + (j - 3824) ≡ j = omega arith in
        ap (at (row_written part 0 mid)) e ∙ written_parity part mid 0 (j - 3824) (omega arith) (omega arith)
        ∙ ap (λ (c : List ℕ). at c (j - 3824)) (same_registers (λ i. at part (3824 * 0 + i)) (λ i. at p (3824 * r + i)) (λ i m. ap (at part) (omega arith) ∙ same i m))
        ∙ sym (row_ends n p r (j - 3824) h (omega arith)) ∙ ap (λ (j : ℕ). at (block_of n p) (4080 * r + j)) f

pub record RowsTo (n : ℕ) (p : List ℕ) (r : ℕ) (o : List ℕ) : Type 0 where
  pub within : r ≤ n
  pub long : length o ≡ 4080 * n
  pub done : (i : ℕ) → i < 4080 * r → at o i ≡ at (block_of n p) i

pub rows_start : (n : ℕ) (p o : List ℕ) → length o ≡ 4080 * n → RowsTo n p 0 o
rows_start n p o e = record { within = omega arith; long = e; done = λ i l. absurd (omega arith) }

pub rows_next : (n : ℕ) (p o part x : List ℕ) (r k h : ℕ) → RowsTo n p r o → r < n → length p ≡ 3824 * n → k ≡ 4080 → h ≡ 3824 → part ≡ take h (drop (3824 * r) p) →
    x ≡ row_written part 0 (take k (drop (4080 * r) o)) → RowsTo n p (r + 1) (put_mid (4080 * r) k o x)
rows_next n p o part x r k h S l long ek eh ep ex =
    record { within = omega arith; long = ap length e ∙ over_length o (4080 * r) 4080 (at x) ∙ S.long; done = λ i b. ap (λ (q : List ℕ). at q i) e ∙ go i b (dec_lt i (4080 * r)) }
  where
    mid : length (take k (drop (4080 * r) o)) ≡ 4080
    mid = ap (λ (k : ℕ). length (take k (drop (4080 * r) o))) ek ∙ part_length 4080 (4080 * r) o (omega (arith, S.long))

    x_long : length x ≡ 4080
    x_long = ap length ex ∙ written_length part (take k (drop (4080 * r) o)) 0 ∙ mid

    e : put_mid (4080 * r) k o x ≡ over o (4080 * r) 4080 (at x)
    e = ap (λ (k : ℕ). put_mid (4080 * r) k o x) ek ∙ part_written o (4080 * r) 4080 x x_long (omega (arith, S.long))

    same : (i : ℕ) → i < 3824 → at part i ≡ at p (3824 * r + i)
    same i m = ap (λ (q : List ℕ). at q i) ep ∙ part_at h (3824 * r) p i (omega arith)

    go : (i : ℕ) → i < 4080 * (r + 1) → Dec (i < 4080 * r) → at (over o (4080 * r) 4080 (at x)) i ≡ at (block_of n p) i
    go i b (yes m) = over_front o (4080 * r) 4080 (at x) i m ∙ S.done i m
    go i b (no m) =
        let q : 4080 * r + (i - 4080 * r) ≡ i = omega arith in
        ap (at (over o (4080 * r) 4080 (at x))) (sym q) ∙ over_in o (4080 * r) 4080 (at x) (i - 4080 * r) (omega arith) (omega (arith, S.long))
        ∙ ap (λ (q : List ℕ). at q (i - 4080 * r)) ex ∙ part_written_row n p part (take k (drop (4080 * r) o)) r (i - 4080 * r) l mid same (omega arith) ∙ ap (at (block_of n p)) q

block_long_lem : (n : ℕ) (p : List ℕ) → length (block_of n p) ≡ 4080 * n
unfolding block_of
block_long_lem n p = block_length n _

pub rows_end : (n : ℕ) (p o : List ℕ) (r : ℕ) → RowsTo n p r o → n ≤ r → o ≡ block_of n p
rows_end n p o r h l = ext_get_or 0 o (block_of n p) (h.long ∙ sym (block_long_lem n p)) (λ i b. h.done i (omega (arith, h.long, h.within)))

-- each refusal has a number above 0
pub numbered : (r : Refusal) → 0 < number r
numbered PayloadLength = lit< tt
numbered BlockLength = lit< tt
numbered BufferSize = lit< tt
numbered NoCodeWord = lit< tt
numbered Uncorrectable = lit< tt
numbered WordLength = lit< tt
numbered Symbol = lit< tt
numbered RowLength = lit< tt

-- ---- the encoder's answers

pub encoded_long : (n long : ℕ) (p o : List ℕ) → 0 < long → (length p ≡ 3824 * n → ⊥) → ◌≡◌ {A = ℕ × List ℕ} (long, o) (block_encoded n long p o)
unfolding block_encoded answered
encoded_long n long p o h ne = rw (ne_eqb (length p) (3824 * n) ne, ne_eqb long 0 (λ e. omega arith))

pub encoded_space : (n long : ℕ) (p o : List ℕ) → length p ≡ 3824 * n → (length o ≡ 4080 * n → ⊥) → ◌≡◌ {A = ℕ × List ℕ} (3, o) (block_encoded n long p o)
unfolding block_encoded answered
encoded_space n long p o e ne = rw (eq-eqb (length p) (3824 * n) e, ne_eqb (length o) (4080 * n) ne)

pub encoded_all : (n long : ℕ) (p o q : List ℕ) → length p ≡ 3824 * n → length o ≡ 4080 * n → q ≡ block_of n p → ◌≡◌ {A = ℕ × List ℕ} (0, q) (block_encoded n long p o)
unfolding block_encoded answered
encoded_all n long p o q e f g = rw (eq-eqb (length p) (3824 * n) e, eq-eqb (length o) (4080 * n) f, g)

-- ---- testing

-- the comparison of parts
pub compared : (p a row : List ℕ) (t : Bool) → length row ≡ 4080 → ((i : ℕ) → i < 3824 → at p i ≡ at row i) → a ≡ registers (at p) 239 → t ≡ pointwise nat_eq (take 256 a) (take 256 (drop 3824 row)) →
    t ≡ row_agrees row 0
unfolding row_agrees agree row_divided
compared p a row t long same ea et = et ∙ tests_agree _ _ there back ∙ ap (λ (a : List ℕ). every 256 (λ i. eqb (at a i) (at row (3824 + i)))) e
  where
    e : a ≡ registers (λ i. at row (0 + i)) 239
    e = ea ∙ same_registers (at p) (λ i. at row (0 + i)) (λ i l. same i l ∙ ap (at row) (sym (zero-add i)))

    a_long : length a ≡ 272
    a_long = ap length ea ∙ registers_length (at p) 239

    there : pointwise nat_eq (take 256 a) (take 256 (drop 3824 row)) ≡ true → every 256 (λ i. eqb (at a i) (at row (3824 + i))) ≡ true
    there h =
        every_true 256 _ (λ i l.
        eq-eqb _ (at row (3824 + i)) (sym (get_or-take 256 a i 0 l) ∙ ap (λ (q : List ℕ). at q i) (same_text (take 256 a) (take 256 (drop 3824 row)) (sym h)) ∙ part_at 256 3824 row i l))

    back : every 256 (λ i. eqb (at a i) (at row (3824 + i))) ≡ true → pointwise nat_eq (take 256 a) (take 256 (drop 3824 row)) ≡ true
    back h =
        let la : length (take 256 a) ≡ 256 = length-take-le 256 a (omega (arith, a_long)) in
        let lr : length (take 256 (drop 3824 row)) ≡ 256 = part_length 256 3824 row (omega arith) in
        (bytes_decides (take 256 a) (take 256 (drop 3824 row))).1
        (ext_get_or 0 (take 256 a) (take 256 (drop 3824 row)) (la ∙ sym lr) (λ i l.
        let m : i < 256 = omega arith in
        get_or-take 256 a i 0 m ∙ eqb-true _ _ (every_at 256 (λ i. eqb (at a i) (at row (3824 + i))) h i m) ∙ sym (part_at 256 3824 row i m)))

every_same : (n : ℕ) (f g : ℕ → Bool) → ((i : ℕ) → i < n → f i ≡ g i) → every n f ≡ every n g
every_same n f g h = tests_agree _ _ (λ t. every_true n g (λ i l. sym (h i l) ∙ every_at n f t i l)) (λ t. every_true n f (λ i l. h i l ∙ every_at n g t i l))

pub part_agrees : (b part : List ℕ) (r k : ℕ) (t : Bool) → k ≡ 4080 → part ≡ take k (drop (4080 * r) b) → t ≡ row_agrees part 0 → t ≡ row_agrees b r
unfolding row_agrees agree row_divided
part_agrees b part r k t n e et =
    let same : (i : ℕ) → i < 4080 → at part i ≡ at b (4080 * r + i) = λ i l. ap (λ (p : List ℕ). at p i) e ∙ part_at k (4080 * r) b i (omega arith) in
    let s : registers (λ i. at part (0 + i)) 239 ≡ registers (λ i. at b (4080 * r + i)) 239 =
    same_registers (λ i. at part (0 + i)) (λ i. at b (4080 * r + i)) (λ i l. ap (at part) (zero-add i) ∙ same i (omega arith)) in
    et
    ∙ every_same 256 _ (λ i. eqb (at (registers (λ i. at part (0 + i)) 239) i) (at b (4080 * r + 3824 + i)))
    (λ i l. ap (eqb (at (registers (λ i. at part (0 + i)) 239) i)) (same (3824 + i) (omega arith) ∙ ap (at b) (omega arith)))
    ∙ ap (λ (a : List ℕ). every 256 (λ i. eqb (at a i) (at b (4080 * r + 3824 + i)))) s

pub row_agrees_lem : (b r : List ℕ) (k : ℕ) (t : Bool) → r ≡ row_divided b (4080 * k) 239 → t ≡ agree r b (4080 * k + 3824) 256 → t ≡ row_agrees b k
unfolding row_agrees
row_agrees_lem b r k t e h = h ∙ ap (λ (r : List ℕ). agree r b (4080 * k + 3824) 256) e

-- a block is written just where all rows agree
payload_place_lem : (r j : ℕ) → j < 3824 → 4080 * ((3824 * r + j) / 3824) + (3824 * r + j) % 3824 ≡ 4080 * r + j
payload_place_lem r j l = omega arith

module _ (n : ℕ) (b : List ℕ) (long : length b ≡ 4080 * n) where
  abbrev P : List ℕ
  P = payload_of_rows n b

  pub payload_at : (r j : ℕ) → r < n → j < 3824 → at P (3824 * r + j) ≡ at b (4080 * r + j)
  unfolding payload_of_rows
  payload_at r j h l = tabulate_at (3824 * n) _ (3824 * r + j) 0 (omega arith) ∙ ap (at b) (payload_place_lem r j l)

  same_lane : (r k : ℕ) → r < n → k < 16 → lane (λ i. at P (3824 * r + i)) 239 k ≡ lane (λ i. at b (4080 * r + i)) 239 k
  same_lane r k h hk =
      divided_same times_c 16 (at (generator_of 8 285 0 16)) (λ t. at P (3824 * r + (16 * t + k))) (λ t. at b (4080 * r + (16 * t + k))) 239 (λ t l. payload_at r (16 * t + k) h (omega arith))

  same_divided : (r i : ℕ) → r < n → i < 256 → at (row_divided P (3824 * r) 239) i ≡ at (row_divided b (4080 * r) 239) i
  same_divided r i h l =
      divided_at P (3824 * r) i l ∙ ap (λ (c : List ℕ). at c (i / 16)) (same_lane r (i % 16) h (omega arith)) ∙ sym (divided_at b (4080 * r) i l)

  -- the parity that the block should have, and the one that it has
  parity_at : (r i : ℕ) → r < n → i < 256 → at (block_of n P) (4080 * r + (3824 + i)) ≡ at (row_divided b (4080 * r) 239) i
  parity_at r i h l = row_ends n P r i h l ∙ same_divided r i h l

  agrees_at : (r : ℕ) → row_agrees b r ≡ true → (i : ℕ) → i < 256 → at (row_divided b (4080 * r) 239) i ≡ at b (4080 * r + 3824 + i)
  unfolding row_agrees agree
  agrees_at r t i l = eqb-true _ _ (every_at 256 (λ i. eqb (at (row_divided b (4080 * r) 239) i) (at b (4080 * r + 3824 + i))) t i l)

  agrees_all : (r : ℕ) → ((i : ℕ) → i < 256 → at (row_divided b (4080 * r) 239) i ≡ at b (4080 * r + 3824 + i)) → row_agrees b r ≡ true
  unfolding row_agrees agree
  agrees_all r h = every_true 256 _ (λ i l. eq-eqb _ (at b (4080 * r + 3824 + i)) (h i l))

  row_same : (r j : ℕ) → r < n → j < 4080 → row_agrees b r ≡ true → at (block_of n P) (4080 * r + j) ≡ at b (4080 * r + j)
  row_same r j h l t = go (dec_lt j 3824)
    where
      go : Dec (j < 3824) → at (block_of n P) (4080 * r + j) ≡ at b (4080 * r + j)
      go (yes k) = row_begins n P r j h k ∙ payload_at r j h k
      go (no k) =
          let e : j ≡ 3824 + (j - 3824) = omega arith in
          let f : 4080 * r + 3824 + (j - 3824) ≡ 4080 * r + j = omega arith in
          ap (λ (j : ℕ). at (block_of n P) (4080 * r + j)) e ∙ parity_at r (j - 3824) h (omega arith) ∙ agrees_at r t (j - 3824) (omega arith) ∙ ap (at b) f

  agree_written : every n (row_agrees b) ≡ true → is_written n b ≡ true
  agree_written t =
      same_written n b (ext_get_or 0 (block_of n P) b (block_long_lem n P ∙ sym long) (λ i l.
      let m : i < 4080 * n = omega (arith, block_long_lem n P) in
      let e : 4080 * (i / 4080) + i % 4080 ≡ i = omega arith in
      ap (at (block_of n P)) (sym e) ∙ row_same (i / 4080) (i % 4080) (omega arith) (omega arith) (every_at n (row_agrees b) t (i / 4080) (omega arith)) ∙ ap (at b) e))

  written_same : is_written n b ≡ true → block_of n P ≡ b
  unfolding is_written
  written_same t = apart_none (block_of n P) b (block_long_lem n P ∙ sym long) (eqb-true _ 0 t)

  written_agree : is_written n b ≡ true → every n (row_agrees b) ≡ true
  written_agree t =
      every_true n (row_agrees b) (λ r h. agrees_all r (λ i l.
      let e : 4080 * r + (3824 + i) ≡ 4080 * r + 3824 + i = omega arith in
      sym (parity_at r i h l) ∙ ap (λ (c : List ℕ). at c (4080 * r + (3824 + i))) (written_same t) ∙ ap (at b) e))

  pub written_is : every n (row_agrees b) ≡ is_written n b
  written_is = tests_agree _ _ agree_written written_agree

unfoldable pub agree_up_to : List ℕ → ℕ → Bool
agree_up_to b r = every r (row_agrees b)

pub up_start : (b : List ℕ) → agree_up_to b 0 ≡ true
unfolding agree_up_to every
up_start b = refl

up_step : (b : List ℕ) (r : ℕ) → agree_up_to b (suc r) ≡ agree_up_to b r && row_agrees b r
unfolding agree_up_to every
up_step b r = refl

pub up_next : (b : List ℕ) (r : ℕ) (t : Bool) → agree_up_to b r ≡ true → t ≡ row_agrees b r → t ≡ true → agree_up_to b (r + 1) ≡ true
up_next b r t es et h = let n : suc r ≡ r + 1 = omega arith in sym (ap (agree_up_to b) n) ∙ up_step b r ∙ ap₂ ◌&&◌ es (sym et ∙ h)

pub up_not : (b : List ℕ) (n r : ℕ) (t : Bool) → length b ≡ 4080 * n → r < n → t ≡ row_agrees b r → t ≡ false → false ≡ is_written n b
up_not b n r t long l et h = go (every n (row_agrees b)) refl ∙ written_is n b long
  where
    go : (x : Bool) → every n (row_agrees b) ≡ x → false ≡ x
    go false e = refl
    go true e = sym h ∙ et ∙ every_at n (row_agrees b) e r l

pub up_end : (b : List ℕ) (n r : ℕ) → length b ≡ 4080 * n → agree_up_to b r ≡ true → r ≤ n → n ≤ r → true ≡ is_written n b
unfolding agree_up_to
up_end b n r long e l g = let q : r ≡ n = omega arith in sym e ∙ ap (λ (r : ℕ). every r (row_agrees b)) q ∙ written_is n b long

pub checked_long : (n long : ℕ) (b : List ℕ) → (length b ≡ 4080 * n → ⊥) → long ≡ block_checked n long b
unfolding block_checked
checked_long n long b ne = rw (ne_eqb (length b) (4080 * n) ne)

pub checked_written : (n long : ℕ) (b : List ℕ) (t : Bool) → length b ≡ 4080 * n → t ≡ is_written n b → t ≡ true → 0 ≡ block_checked n long b
unfolding block_checked
checked_written n long b t e w h = rw (eq-eqb (length b) (4080 * n) e, ← w, h)

pub checked_other : (n long : ℕ) (b : List ℕ) (t : Bool) → length b ≡ 4080 * n → t ≡ is_written n b → t ≡ false → 4 ≡ block_checked n long b
unfolding block_checked
checked_other n long b t e w h = rw (eq-eqb (length b) (4080 * n) e, ← w, h)

-- ---- the payload

pub record DataTo (n : ℕ) (b : List ℕ) (r : ℕ) (o : List ℕ) : Type 0 where
  pub within : r ≤ n
  pub long : length o ≡ 3824 * n
  pub done : (i : ℕ) → i < 3824 * r → at o i ≡ at (payload_of_rows n b) i

pub data_start : (n : ℕ) (b o : List ℕ) → length o ≡ 3824 * n → DataTo n b 0 o
data_start n b o e = record { within = omega arith; long = e; done = λ i l. absurd (omega arith) }

pub data_next : (n : ℕ) (b o p : List ℕ) (r k h : ℕ) → DataTo n b r o → r < n → length b ≡ 4080 * n → k ≡ 3824 → h ≡ 3824 → p ≡ take h (drop (4080 * r) b) → DataTo n b (r + 1) (put_mid (3824 * r) k o p)
data_next n b o p r k h S l long ek eh ep =
    record { within = omega arith; long = ap length e ∙ over_length o (3824 * r) 3824 _ ∙ S.long; done = λ i m. ap (λ (q : List ℕ). at q i) e ∙ go i m (dec_lt i (3824 * r)) }
  where
    e : put_mid (3824 * r) k o p ≡ over o (3824 * r) 3824 (λ i. at b (4080 * r + i))
    e = part_copied o (3824 * r) 3824 k p b (4080 * r) h ep ek eh (omega arith) (omega (arith, S.long))

    go : (i : ℕ) → i < 3824 * (r + 1) → Dec (i < 3824 * r) → at (over o (3824 * r) 3824 (λ i. at b (4080 * r + i))) i ≡ at (payload_of_rows n b) i
    go i m (yes k) = over_front o (3824 * r) 3824 _ i k ∙ S.done i k
    go i m (no k) =
        let q : 3824 * r + (i - 3824 * r) ≡ i = omega arith in
        ap (at (over o (3824 * r) 3824 (λ i. at b (4080 * r + i)))) (sym q)
        ∙ over_in o (3824 * r) 3824 (λ i. at b (4080 * r + i)) (i - 3824 * r) (omega arith) (omega (arith, S.long))
        ∙ sym (payload_at n b long r (i - 3824 * r) l (omega arith)) ∙ ap (at (payload_of_rows n b)) q

payload_long_lem : (n : ℕ) (b : List ℕ) → length (payload_of_rows n b) ≡ 3824 * n
unfolding payload_of_rows
payload_long_lem n b = tabulate_length (3824 * n) _

pub data_end : (n : ℕ) (b o : List ℕ) (r : ℕ) → DataTo n b r o → n ≤ r → o ≡ payload_of_rows n b
data_end n b o r h l = ext_get_or 0 o (payload_of_rows n b) (h.long ∙ sym (payload_long_lem n b)) (λ i m. h.done i (omega (arith, h.long, h.within)))

-- ---- the extractor's answers

module _ (n long : ℕ) (b o : List ℕ) where
  pub extracted_long : 0 < long → (length b ≡ 4080 * n → ⊥) → ◌≡◌ {A = ℕ × List ℕ} (long, o) (block_extracted n long b o)
  unfolding block_extracted answered
  extracted_long h ne = rw (ne_eqb (length b) (4080 * n) ne, ne_eqb long 0 (λ e. omega arith))

  pub extracted_space : length b ≡ 4080 * n → (length o ≡ 3824 * n → ⊥) → ◌≡◌ {A = ℕ × List ℕ} (3, o) (block_extracted n long b o)
  unfolding block_extracted answered
  extracted_space e ne = rw (eq-eqb (length b) (4080 * n) e, ne_eqb (length o) (3824 * n) ne)

  pub extracted_all : (t : Bool) (q : List ℕ) → length b ≡ 4080 * n → length o ≡ 3824 * n → t ≡ is_written n b → t ≡ true → q ≡ payload_of_rows n b →
      ◌≡◌ {A = ℕ × List ℕ} (0, q) (block_extracted n long b o)
  unfolding block_extracted answered
  extracted_all t q e f w h g = rw (eq-eqb (length b) (4080 * n) e, eq-eqb (length o) (3824 * n) f, ← w, h, g)

  pub extracted_other : (t : Bool) → length b ≡ 4080 * n → length o ≡ 3824 * n → t ≡ is_written n b → t ≡ false → ◌≡◌ {A = ℕ × List ℕ} (4, o) (block_extracted n long b o)
  unfolding block_extracted answered
  extracted_other t e f w h = rw (eq-eqb (length b) (4080 * n) e, eq-eqb (length o) (3824 * n) f, ← w, h)
