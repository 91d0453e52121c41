-- Rows: the places of their words, the payload in them, and correction word by word. For blocks of any number of rows. Assumes nothing.
use mathlib.Core.Path.{◌≡◌, refl, sym, ap, ap₂, ◌∙◌}
use mathlib.Core.Bool.{true, and-eq-true_iff}
use mathlib.Core.List.{List, [], ◌++◌}
use mathlib.Core.Option.{Option, none, some, map}
use Prim.Native.Nat.{ℕ, zero, suc, ◌+◌, ◌*◌, ◌/◌, ◌%◌, ◌≤◌, ◌<◌}
use native.Mathlib.Decide.{dec_le}
use native.Mathlib.Nat.{mul-suc, mul-zero}
use native.Mathlib.Omega.{arith}
use borrow.Author.Tests.{eq-eqb, eqb-true}
use lib.Dec.{eqb, lit<}
use lib.ListN.{length, get_or, length-append, get_or-append}
use Rattle.fields.specs.Lists.{tabulate}
use Rattle.fields.proofs.Lists.{tabulate_at, tabulate_is, tabulate_length, tabulate_lt, tabulate_same, tabulate_append}
use Rattle.fields.specs.Places.{at, all_below, sum_to, differs, apart}
use Rattle.words.specs.Answers.{found, corrected}
use Rattle.words.specs.Corrections.{Correction, Corrected, Refused, refusal_of, changed_of}
use Rattle.fields.proofs.Places.Counting.{sum_same, apart_sum}
use Rattle.fields.proofs.Places.Tests.{below_at, below_all}
use Rattle.words.proofs.Codes.Nearest.{nearest_lost}
use Rattle.words.specs.Nearest.{every_of}
use Rattle.fields.proofs.Places.Differences.{sum_at_lem, sum_plus, sum_grid, apart_tables, apart_self, apart_none}
use Rattle.words.proofs.Codes.Options.{every_some, every_missing, every_none, every_all}
use Rattle.words.specs.ReedSolomon.{is_code_word, parity_of}
use Rattle.g709.specs.Rows.{is_payload_of, is_block_of, is_byte_word, byte_data, byte_word, block_of_words, block_of, payload_of_rows, is_written, received_bytes, bytes_restored, restored_block}
use Rattle.g709.specs.Answers.{block_corrected}
use Rattle.g709.specs.Laws.{Beyond, Within, RowLaws}
use Rattle.g709.proofs.ByteCode.{code_c, byte_nearest, byte_lt}

-- ---- sums over a part of a block

-- n parts of m each
sum_parts : (m n : ℕ) (f : ℕ → ℕ) → sum_to (m * n) f ≡ sum_to n (λ r. sum_to m (λ j. f (m * r + j)))
unfolding sum_to
sum_parts m zero f = ap (λ (k : ℕ). sum_to k f) (mul-zero m)
sum_parts m (suc n) f = ap (λ (k : ℕ). sum_to k f) (mul-suc m n) ∙ sum_plus (m * n) m f ∙ ap (λ (k : ℕ). k + sum_to m (λ j. f (m * n + j))) (sum_parts m n f)

-- ---- the code

pub data_length : (p : List ℕ) (w : ℕ) → length (byte_data p w) ≡ 239
unfolding byte_data
data_length p w = tabulate_length 239 _

word_length : (p : List ℕ) (w : ℕ) → length (byte_word p w) ≡ 255
unfolding byte_word
word_length p w = length-append (byte_data p w) _ ∙ ap₂ ◌+◌ (data_length p w) (code_c.parity_length (byte_data p w))

word_code : (p : List ℕ) → all_below 256 p ≡ true → (w : ℕ) → is_byte_word (byte_word p w) ≡ true
unfolding byte_word byte_data
word_code p h w =
    code_c.parity_made (byte_data p w) (below_all 256 _ (λ i l. tabulate_lt 256 239 _ (lit< tt) (λ s. below_at 256 p (lit< tt) h _) i))

-- ---- places

pub word_to_row : (b : List ℕ) (r k s : ℕ) → k < 16 → s < 255 → at (received_bytes b (16 * r + k)) s ≡ at b (4080 * r + (16 * s + k))
unfolding received_bytes
word_to_row b r k s h l = tabulate_at 255 _ s 0 l ∙ ap (at b) (omega arith)

pub row_to_word : (b : List ℕ) (r j : ℕ) → j < 4080 → at b (4080 * r + j) ≡ at (received_bytes b (16 * r + j % 16)) (j / 16)
row_to_word b r j l = sym (word_to_row b r (j % 16) (j / 16) (omega arith) (omega arith) ∙ ap (at b) (omega arith))

pub received_length : (b : List ℕ) (w : ℕ) → length (received_bytes b w) ≡ 255
unfolding received_bytes
received_length b w = tabulate_length 255 _

-- byte s of word w: its place in the block, and back
pub place_back : (w s : ℕ) → s < 255 →
    (16 * ((4080 * (w / 16) + 16 * s + w % 16) / 4080) + (4080 * (w / 16) + 16 * s + w % 16) % 16 ≡ w) × ((4080 * (w / 16) + 16 * s + w % 16) % 4080 / 16 ≡ s)
place_back w s l = omega arith

pub place_room : (n w s : ℕ) → w < 16 * n → s < 255 → 4080 * (w / 16) + 16 * s + w % 16 < 4080 * n
place_room n w s k l = omega arith

module _ (n : ℕ) where
  pub block_length : (ws : List (List ℕ)) → length (block_of_words n ws) ≡ 4080 * n
  unfolding block_of_words
  block_length ws = tabulate_length (4080 * n) _

  pub block_at : (ws : List (List ℕ)) (i : ℕ) → i < 4080 * n → at (block_of_words n ws) i ≡ at (get_or ws (16 * (i / 4080) + i % 16) []) (i % 4080 / 16)
  unfolding block_of_words
  block_at ws i l = tabulate_at (4080 * n) _ i 0 l

  -- the words that a block was made of stand in it
  pub words_in_lem : (ws : List (List ℕ)) (w : ℕ) → w < 16 * n → length (get_or ws w []) ≡ 255 → received_bytes (block_of_words n ws) w ≡ get_or ws w []
  unfolding received_bytes
  words_in_lem ws w k long =
      sym (tabulate_is 255 _ (get_or ws w []) 0 long (λ s l.
      sym (block_at ws (4080 * (w / 16) + 16 * s + w % 16) (place_room n w s k l) ∙ rw ((place_back w s l).0, (place_back w s l).1))))

  -- and a block is that of its words
  block_known : (b : List ℕ) (ws : List (List ℕ)) → length b ≡ 4080 * n → ((w : ℕ) → w < 16 * n → get_or ws w [] ≡ received_bytes b w) → block_of_words n ws ≡ b
  unfolding block_of_words
  block_known b ws long same =
      sym (tabulate_is (4080 * n) _ b 0 long (λ i l.
      let w = 16 * (i / 4080) + i % 16 in
      let s = i % 4080 / 16 in
      let q : i % 4080 % 16 ≡ i % 16 = omega arith in
      ap (at b) (omega arith) ∙ row_to_word b (i / 4080) (i % 4080) (omega arith)
      ∙ rw q (ap (λ (c : List ℕ). at c s) (sym (same w (omega arith))))))

  -- the words of a row, and of all rows, differ where the bytes do
  pub apart_words : (a b : List ℕ) → length a ≡ 4080 * n → apart a b ≡ sum_to (16 * n) (λ w. apart (received_bytes a w) (received_bytes b w))
  unfolding received_bytes
  apart_words a b long =
      apart_sum a b ∙ rw long (sum_parts 4080 n f
      ∙ sum_same n _ _ (λ r l. sym (sum_grid 16 255 (λ j. f (4080 * r + j))) ∙ sum_same 16 _ _ (λ k h. sym (word r k h)))
      ∙ sym (sum_parts 16 n (λ w. apart (received_bytes a w) (received_bytes b w))))
    where
      f : ℕ → ℕ
      f i = differs (at a i) (at b i)

      word : (r k : ℕ) → k < 16 → apart (received_bytes a (16 * r + k)) (received_bytes b (16 * r + k)) ≡ sum_to 255 (λ s. f (4080 * r + (16 * s + k)))
      word r k h = apart_tables 255 _ _ ∙ sum_same 255 _ _ (λ s m. ap f (omega arith))

  -- a word differs in no more bytes than the block
  word_apart : (a b : List ℕ) → length a ≡ 4080 * n → (w : ℕ) → w < 16 * n → apart (received_bytes a w) (received_bytes b w) ≤ apart a b
  word_apart a b long w l = omega (arith, apart_words a b long, sum_at_lem (16 * n) (λ w. apart (received_bytes a w) (received_bytes b w)) w l)

  -- ---- the payload in a block

  payload_is : (p : List ℕ) → is_payload_of n p ≡ true → (length p ≡ 3824 * n) × (all_below 256 p ≡ true)
  unfolding is_payload_of
  payload_is p h = let t = (and-eq-true_iff (eqb (length p) (3824 * n)) (all_below 256 p)).0 h in (eqb-true (length p) (3824 * n) t.0, t.1)

  block_is : (b : List ℕ) → is_block_of n b ≡ true → (length b ≡ 4080 * n) × (all_below 256 b ≡ true)
  unfolding is_block_of
  block_is b h = let t = (and-eq-true_iff (eqb (length b) (4080 * n)) (all_below 256 b)).0 h in (eqb-true (length b) (4080 * n) t.0, t.1)

  pub own_words : (p : List ℕ) (w : ℕ) → w < 16 * n → received_bytes (block_of n p) w ≡ byte_word p w
  unfolding block_of
  own_words p w k =
      let e : get_or (tabulate (16 * n) (byte_word p)) w [] ≡ byte_word p w = tabulate_at (16 * n) (byte_word p) w [] k in
      words_in_lem (tabulate (16 * n) (byte_word p)) w k (ap length e ∙ word_length p w) ∙ e

  pub row_begins : (p : List ℕ) (r j : ℕ) → r < n → j < 3824 → at (block_of n p) (4080 * r + j) ≡ at p (3824 * r + j)
  unfolding byte_word byte_data
  row_begins p r j h l =
      let w = 16 * r + j % 16 in
      let k : w < 16 * n = omega arith in
      row_to_word (block_of n p) r j (omega arith) ∙ ap (λ (c : List ℕ). at c (j / 16)) (own_words p w k)
      ∙ get_or-append (byte_data p w) _ 0 (j / 16) (omega (arith, data_length p w)) ∙ tabulate_at 239 _ (j / 16) 0 (omega arith) ∙ ap (at p) (omega arith)

  pub payload_back : (p : List ℕ) → is_payload_of n p ≡ true → payload_of_rows n (block_of n p) ≡ p
  unfolding payload_of_rows
  payload_back p h =
      sym (tabulate_is (3824 * n) _ p 0 (payload_is p h).0 (λ i l. sym (row_begins p (i / 3824) (i % 3824) (omega arith) (omega arith) ∙ ap (at p) (omega arith))))

  -- ---- the test

  words_block : (ws : List (List ℕ)) → ((w : ℕ) → w < 16 * n → is_byte_word (get_or ws w []) ≡ true) → is_block_of n (block_of_words n ws) ≡ true
  unfolding is_block_of
  words_block ws code =
      rw (eq-eqb _ (4080 * n) (block_length ws))
      (below_all 256 (block_of_words n ws) (λ i l.
      let m : i < 4080 * n = rw (block_length ws) at l in
      rw (block_at ws i m) (byte_lt _ (code (16 * (i / 4080) + i % 16) (omega arith)) (i % 4080 / 16))))

  pub same_written : (b : List ℕ) → block_of n (payload_of_rows n b) ≡ b → is_written n b ≡ true
  unfolding is_written
  same_written b e = eq-eqb (apart (block_of n (payload_of_rows n b)) b) 0 (ap (λ (f : List ℕ). apart f b) e ∙ apart_self b)

  pub written_accepted : (p : List ℕ) → is_payload_of n p ≡ true → (is_block_of n (block_of n p) ≡ true) × (is_written n (block_of n p) ≡ true)
  unfolding block_of
  written_accepted p h = (
    words_block _ (λ w k. rw (tabulate_at (16 * n) (byte_word p) w [] k) (word_code p (payload_is p h).1 w)),
    same_written (block_of n p) (ap (block_of n) (payload_back p h)),
  )

  pub written_only : (b : List ℕ) → is_block_of n b ≡ true → is_written n b ≡ true → (is_payload_of n (payload_of_rows n b) ≡ true) × (block_of n (payload_of_rows n b) ≡ b)
  unfolding is_written is_payload_of payload_of_rows block_of
  written_only b h t =
      let e = block_is b h in
      let long : length (payload_of_rows n b) ≡ 3824 * n = tabulate_length (3824 * n) _ in
      let bytes : all_below 256 (payload_of_rows n b) ≡ true = below_all 256 _ (λ i l. tabulate_lt 256 (3824 * n) _ (lit< tt) (λ i. below_at 256 b (lit< tt) e.1 _) i) in (
        rw (eq-eqb _ (3824 * n) long) bytes,
        apart_none (block_of n (payload_of_rows n b)) b (block_length _ ∙ sym e.0) (eqb-true (apart (block_of n (payload_of_rows n b)) b) 0 t),
      )

  -- the data of a word of a block are those of the payload in it
  data_in_lem : (b : List ℕ) (w s : ℕ) → w < 16 * n → s < 239 → at (payload_of_rows n b) (3824 * (w / 16) + 16 * s + w % 16) ≡ at (received_bytes b w) s
  unfolding payload_of_rows received_bytes
  data_in_lem b w s k l =
      tabulate_at (3824 * n) _ (3824 * (w / 16) + 16 * s + w % 16) 0 (omega arith) ∙ ap (at b) (data_place_lem w s l) ∙ sym (tabulate_at 255 _ s 0 (omega arith))
    where
      data_place_lem : (w s : ℕ) → s < 239 →
          4080 * ((3824 * (w / 16) + 16 * s + w % 16) / 3824) + (3824 * (w / 16) + 16 * s + w % 16) % 3824 ≡ 4080 * (w / 16) + 16 * s + w % 16
      data_place_lem w s l = omega arith

  code_word_in : (b : List ℕ) (w : ℕ) → w < 16 * n → is_byte_word (received_bytes b w) ≡ true → byte_word (payload_of_rows n b) w ≡ received_bytes b w
  unfolding byte_word byte_data
  code_word_in b w k h =
      let c = received_bytes b w in
      let d = byte_data (payload_of_rows n b) w in
      let q = tabulate 16 (λ s. at c (239 + s)) in
      let same : d ≡ tabulate 239 (at c) = tabulate_same 239 _ _ (λ s l. data_in_lem b w s k l) in
      let whole : tabulate 255 (at c) ≡ c = sym (tabulate_is 255 (at c) c 0 (received_length b w) (λ s l. refl)) in
      let parts : d ++ q ≡ c = ap (λ (x : List ℕ). x ++ q) same ∙ tabulate_append 239 16 (at c) _ (λ s. refl) ∙ whole in
      let parity : q ≡ parity_of 8 285 0 16 d = code_c.parity_only d q (omega (arith, data_length (payload_of_rows n b) w)) (tabulate_length 16 _) (ap (is_code_word 8 285 0 16) parts ∙ h) in
      ap (λ (x : List ℕ). d ++ x) (sym parity) ∙ parts

  pub code_written : (b : List ℕ) → is_block_of n b ≡ true → ((w : ℕ) → w < 16 * n → is_byte_word (received_bytes b w) ≡ true) → is_written n b ≡ true
  unfolding block_of
  code_written b h code =
      same_written b (block_known b _ (block_is b h).0 (λ w k. tabulate_at (16 * n) (byte_word (payload_of_rows n b)) w [] k ∙ code_word_in b w k (code w k)))

  pub written_code : (b : List ℕ) → is_block_of n b ≡ true → is_written n b ≡ true → (w : ℕ) → w < 16 * n → is_byte_word (received_bytes b w) ≡ true
  written_code b h t w k =
      let own = written_only b h t in
      let p = payload_of_rows n b in
      ap (λ (f : List ℕ). is_byte_word (received_bytes f w)) (sym own.1) ∙ ap is_byte_word (own_words p w k) ∙ word_code p (payload_is p own.0).1 w

  pub far : (p q : List ℕ) → is_payload_of n p ≡ true → is_payload_of n q ≡ true → (p ≡ q → ⊥) → 17 ≤ apart (block_of n p) (block_of n q)
  unfolding block_of
  far p q hp hq other = go (dec_le 17 (apart (block_of n p) (block_of n q)))
    where
      same : apart (block_of n p) (block_of n q) ≤ 16 → (w : ℕ) → w < 16 * n → byte_word p w ≡ byte_word q w
      same few w k =
          let near : apart (byte_word p w) (byte_word q w) ≤ apart (block_of n p) (block_of n q) =
          rw (own_words p w k, own_words q w k) at (word_apart (block_of n p) (block_of n q) (block_length _) w k) in
          code_c.code_far (byte_word p w) (byte_word q w) (word_code p (payload_is p hp).1 w) (word_code q (payload_is q hq).1 w)
          (word_length p w ∙ sym (word_length q w)) (rw (word_length p w) (lit< tt)) (omega arith)

      go : Dec (17 ≤ apart (block_of n p) (block_of n q)) → 17 ≤ apart (block_of n p) (block_of n q)
      go (yes h) = h
      go (no h) =
          let blocks : block_of n p ≡ block_of n q = ap (block_of_words n) (tabulate_same (16 * n) _ _ (same (omega arith))) in
          absurd (other (sym (payload_back p hp) ∙ ap (payload_of_rows n) blocks ∙ payload_back q hq))

  -- ---- correction

  module _ (long : ℕ) (block buffer : List ℕ) (fits : length block ≡ 4080 * n) (room : length buffer ≡ 4080 * n) where
    answer_is : block_corrected n long block buffer ≡ found Refused (λ c. Corrected (apart block c)) (λ c. c) buffer (restored_block n block)
    unfolding block_corrected corrected
    answer_is = rw (eq-eqb (length block) (4080 * n) fits, eq-eqb (length buffer) (4080 * n) room)

    pub corrected_to : (p : List ℕ) → is_payload_of n p ≡ true → Within n block (block_of n p) → block_corrected n long block buffer ≡ (Corrected (apart block (block_of n p)), block_of n p)
    unfolding restored_block bytes_restored found block_of
    corrected_to p h near = answer_is ∙ rw words
      where
        words : every_of (tabulate (16 * n) (bytes_restored block)) ≡ some (tabulate (16 * n) (byte_word p))
        words =
            every_some (16 * n) (bytes_restored block) (byte_word p) (λ w k.
            let close : apart (received_bytes block w) (byte_word p w) ≤ 8 = rw (own_words p w k) at (near w k) in
            byte_nearest.complete (received_bytes block w) (byte_word p w) (received_length block w) (word_length p w) (word_code p (payload_is p h).1 w) close)

    pub uncorrectable : (w : ℕ) → w < 16 * n → Beyond block w → block_corrected n long block buffer ≡ (Refused 5, buffer)
    unfolding restored_block bytes_restored found
    uncorrectable w k far =
        answer_is
        ∙ rw (every_missing (16 * n) (bytes_restored block) w k (nearest_lost is_byte_word 256 8 (received_bytes block w) (λ c code l. far c code (l ∙ received_length block w))))

    -- what the restored words are
    module _ (ws : List (List ℕ)) (e : every_of (tabulate (16 * n) (bytes_restored block)) ≡ some ws) where
      word_found : (w : ℕ) → w < 16 * n → (length (get_or ws w []) ≡ 255) × (is_byte_word (get_or ws w []) ≡ true) × (apart (received_bytes block w) (get_or ws w []) ≤ 8)
      unfolding bytes_restored
      word_found w k = byte_nearest.sound (received_bytes block w) (get_or ws w []) (received_length block w) ((every_all (16 * n) (bytes_restored block) ws [] e).1 w k)

      word_stands : (w : ℕ) → w < 16 * n → received_bytes (block_of_words n ws) w ≡ get_or ws w []
      word_stands w k = words_in_lem ws w k (word_found w k).0

      restored_good : (is_block_of n (block_of_words n ws) ≡ true) × (is_written n (block_of_words n ws) ≡ true) × Within n block (block_of_words n ws)
      restored_good =
          let whole = words_block ws (λ w k. (word_found w k).1) in
          (whole, code_written (block_of_words n ws) whole (λ w k. ap is_byte_word (word_stands w k) ∙ (word_found w k).1), λ w k. rw (word_stands w k) (word_found w k).2)

    pub corrected_only : (changed : ℕ) (out : List ℕ) → block_corrected n long block buffer ≡ (Corrected changed, out) →
        (is_block_of n out ≡ true) × (is_written n out ≡ true) × Within n block out × (changed ≡ apart block out)
    unfolding restored_block found
    corrected_only changed out e = go (every_of (tabulate (16 * n) (bytes_restored block))) refl (sym answer_is ∙ e)
      where
        go : (o : Option (List (List ℕ))) → every_of (tabulate (16 * n) (bytes_restored block)) ≡ o → found Refused (λ c. Corrected (apart block c)) (λ c. c) buffer (map (block_of_words n) o) ≡ (Corrected changed, out) →
            (is_block_of n out ≡ true) × (is_written n out ≡ true) × Within n block out × (changed ≡ apart block out)
        go none f e = let z : ◌≡◌ {A = ℕ} 5 0 = ap (λ (a : Correction × List ℕ). refusal_of a.0) e in absurd (omega arith)
        go (some ws) f e =
            let same : block_of_words n ws ≡ out = ap (λ (a : Correction × List ℕ). a.1) e in
            let count : apart block (block_of_words n ws) ≡ changed = ap (λ (a : Correction × List ℕ). changed_of a.0) e in
            let good = restored_good ws f in
            (rw (← same) good.0, rw (← same) good.1, rw (← same) good.2, rw (← same) (sym count))

    pub uncorrectable_only : block_corrected n long block buffer ≡ (Refused 5, buffer) → (w : ℕ) × (w < 16 * n) × Beyond block w
    unfolding restored_block found bytes_restored
    uncorrectable_only e = go (every_of (tabulate (16 * n) (bytes_restored block))) refl (sym answer_is ∙ e)
      where
        go : (o : Option (List (List ℕ))) → every_of (tabulate (16 * n) (bytes_restored block)) ≡ o → found Refused (λ c. Corrected (apart block c)) (λ c. c) buffer (map (block_of_words n) o) ≡ (Refused 5, buffer) →
            (w : ℕ) × (w < 16 * n) × Beyond block w
        go none f e =
            let missing = every_none (16 * n) (bytes_restored block) f in
            (missing.0, missing.1, λ c code l. byte_nearest.none_means_none (received_bytes block missing.0) c (received_length block missing.0) missing.2 l code)
        go (some ws) f e = let z : ◌≡◌ {A = ℕ} 0 5 = ap (λ (a : Correction × List ℕ). refusal_of a.0) e in absurd (omega arith)

  pub row_laws : RowLaws n
  row_laws =
      record {
        payload_back = payload_back;
        written_accepted = written_accepted;
        written_only = written_only;
        word_to_row = word_to_row;
        row_to_word = row_to_word;
        row_begins = row_begins;
        words = λ p w h k. (own_words p w k, word_code p (payload_is p h).1 w);
        code_written = code_written;
        written_code = written_code;
        apart_words = apart_words;
        far = far;
        corrected = λ long p block buffer h fits room near. corrected_to long block buffer fits room p h near;
        corrected_only = λ long changed block buffer out fits room. corrected_only long block buffer fits room changed out;
        uncorrectable = λ long block buffer w fits room. uncorrectable long block buffer fits room w;
        uncorrectable_only = λ long block buffer. uncorrectable_only long block buffer;
      }
