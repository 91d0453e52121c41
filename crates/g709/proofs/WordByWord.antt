-- A block is restored word by word in its copy. Assumes nothing.
use mathlib.Core.Path.{◌≡◌, refl, sym, ap, ap₂, ◌∙◌}
use mathlib.Core.Bool.{Bool, true, false, not, cond}
use mathlib.Core.List.{List, []}
use mathlib.Core.Logic.{◌⊎◌, inl, inr}
use mathlib.Core.Option.{Option, none, some}
use Prim.Native.Nat.{ℕ, suc, ◌+◌, ◌*◌, ◌/◌, ◌%◌, ◌≤◌, ◌<◌}
use native.Mathlib.Decide.{ℕ_discrete}
use native.Mathlib.Nat.{zero-add}
use native.Mathlib.Omega.{arith}
use borrow.Author.Tests.{eq-eqb, ne_eqb, not-true}
use lib.Dec.{eqb, lit<}
use lib.ListN.{length, take, drop, get_or}
use lib.Seq.{ext_get_or}
use Rattle.fields.specs.Lists.{tabulate}
use Rattle.fields.specs.Elements.{powers_c, exponents_c}
use Rattle.fields.specs.Places.{at, all_below, sum_to, apart}
use Rattle.fields.proofs.Instances.{field_c}
use Rattle.fields.proofs.Lists.{tabulate_at, tabulate_is, tabulate_lt, tabulate_same}
use Rattle.fields.proofs.Places.Counting.{sum_same}
use Rattle.fields.proofs.Places.Differences.{apart_self}
use Rattle.fields.proofs.Places.Tests.{below_at, below_all}
use Rattle.decoding.specs.declared.error_values.Errors.{Errors}
use Rattle.decoding.specs.Steps.ByTables.{root_value, root_values}
use Rattle.decoding.specs.Steps.Decoder.{Decoded}
use Rattle.words.specs.declared.Refusal.{Refusal}
use Rattle.words.specs.Corrections.{Correction, Corrected, Refused, refusal_of, changed_of, refusal_number, correction_of}
use Rattle.words.specs.Answers.{found, corrected}
use Rattle.std.specs.Prelude.{Option as Answer, Some, None, is_some, Result, Ok, Err}
use Rattle.words.specs.ReedSolomon.{value_at_root}
use Rattle.words.specs.Nearest.{nearest, every_of}
use Rattle.words.proofs.Codes.Options.{every_some, every_missing}
use Rattle.words.proofs.Codes.ReedSolomon.{root_is, is_code_lem}
use Rattle.g709.specs.Rows.{is_byte_word, block_of_words, received_bytes, bytes_restored, restored_block}
use Rattle.g709.specs.Answers.{block_corrected, without_changes}
use Rattle.g709.specs.Steps.Registers.{over, row_remainders}
use Rattle.g709.specs.Steps.ColumnSyndromes.{SyndromesTo, RowSyndromes}
use Rattle.g709.specs.Steps.Restoring.{word_of, byte_place, lane_of, word_stored, word_corrected, answer_of, count_found, WordErrors, alone, Remains, WordDone, RestoredTo, Restoring}
use Rattle.g709.proofs.ByteCode.{byte_nearest}
use Rattle.g709.proofs.Rows.{received_length, place_back, block_length, block_at, words_in_lem, apart_words}
use Rattle.g709.proofs.Overlays.{over_length, over_in, part_at}
use Rattle.g709.proofs.Folds.{part_remainders}
use Rattle.g709.proofs.Remainders.{word_remainder, lane_below}
use Rattle.g709.proofs.ColumnSyndromes.{lane_syndromes}
use Rattle.g709.proofs.Correcting.{place_lt, standing_there}

-- ---- the answer for a word joins the progress

one_not_other : {b : Bool} → b ≡ true → b ≡ false → ⊥
one_not_other t f = let z : ◌≡◌ {A = ℕ} 1 0 = ap (λ (b : Bool). cond b 1 0) (sym t ∙ f) in omega arith

-- ---- one word

corrected_refused : (n m : ℕ) → ◌≡◌ {A = Correction} (Corrected n) (Refused m) → ⊥
corrected_refused n m e = let z : ◌≡◌ {A = ℕ} 1 0 = ap kind e in omega arith
  where
    kind : Correction → ℕ
    kind (Corrected n) = 1
    kind (Refused n) = 0

module _ (o : List ℕ) (w : ℕ) where
  stored_self : o ≡ word_stored o w (received_bytes o w)
  unfolding word_stored received_bytes
  stored_self = tabulate_is (length o) _ o 0 refl (λ i l. go i (ℕ_discrete (word_of i) w))
    where
      there : (i : ℕ) → word_of i ≡ w → i ≡ 4080 * (w / 16) + 16 * byte_place i + w % 16
      there i e =
          let parts : w ≡ 16 * (w / 16) + w % 16 = omega arith in
          let s : i ≡ 4080 * (w / 16) + w % 16 + 16 * byte_place i = standing_there i (w / 16) (w % 16) (omega arith) (e ∙ parts) in
          omega arith

      go : (i : ℕ) → Dec (word_of i ≡ w) → at o i ≡ cond (eqb (word_of i) w) (at (tabulate 255 (λ s. at o (4080 * (w / 16) + 16 * s + w % 16))) (byte_place i)) (at o i)
      go i (yes e) = rw (eq-eqb (word_of i) w e) (ap (at o) (there i e) ∙ sym (tabulate_at 255 _ (byte_place i) 0 (place_lt i)))
      go i (no n) = rw (ne_eqb (word_of i) w n)

  pub word_skipped : (reached : Bool) (changed : ℕ) → not reached ≡ true → WordDone o w reached changed o false 0
  word_skipped reached changed n =
      let f : reached ≡ false = not-true reached n in
      record { long = refl; found = λ t. absurd (one_not_other t refl); lost = λ e. inl f }

  module _ (lane : List ℕ) (R : Remains true lane (received_bytes o w)) where
    -- syndromes of zeros: the word is a code word
    zero_values : all_below 1 lane ≡ true → (j : ℕ) → j < 16 → value_at_root 8 285 0 (received_bytes o w) j ≡ 0
    unfolding root_values
    zero_values z j l =
        let here : at lane j ≡ 0 = omega (arith, below_at 1 lane (lit< tt) z j) in
        sym (root_is 8 285 field_c (received_bytes o w) (R.bytes refl) j)
        ∙ sym (ap (λ (v : List ℕ). at v j) (R.values refl) ∙ tabulate_at 16 (root_value powers_c exponents_c (received_bytes o w)) j 0 l) ∙ here

    itself : all_below 1 lane ≡ true → bytes_restored o w ≡ some (received_bytes o w)
    unfolding bytes_restored
    itself z =
        byte_nearest.complete (received_bytes o w) (received_bytes o w) (received_length o w) (received_length o w)
        (is_code_lem 8 285 0 16 (received_bytes o w) (R.bytes refl) (zero_values z)) (omega (arith, apart_self (received_bytes o w)))

    word_clean : all_below 1 lane ≡ true → WordDone o w true 0 o true 0
    word_clean z =
        record {
          long = refl;
          found = λ t. (received_bytes o w, t, itself z, stored_self, omega (arith, apart_self (received_bytes o w)));
          lost = λ f. inl f;
        }

  pub clean_word : (lane cells : List ℕ) (b : Bool) → Remains true lane (received_bytes o w) → cells ≡ lane → b ≡ all_below 1 cells → b ≡ true → WordDone o w true 0 o true 0
  clean_word lane cells b R e test z = word_clean lane R (sym (ap (all_below 1) e) ∙ sym test ∙ z)

  pub word_answered : (c : Answer ℕ) (next : List ℕ) → (answer_of c, next) ≡ word_corrected o w → length next ≡ length o → WordDone o w true 0 next (is_some c) (count_found c)
  unfolding word_corrected found
  word_answered (Some n) next e long = go (bytes_restored o w) refl
    where
      go : (r : Option (List ℕ)) → bytes_restored o w ≡ r → WordDone o w true 0 next true n
      go none q =
          let a : ◌≡◌ {A = Correction × List ℕ} (Corrected n, next) (Refused 5, o) = e ∙ ap (found Refused (λ c. Corrected (apart (received_bytes o w) c)) (word_stored o w) o) q in
          absurd (corrected_refused n 5 (ap (λ (p : Correction × List ℕ). p.0) a))
      go (some d) q =
          let a : ◌≡◌ {A = Correction × List ℕ} (Corrected n, next) (Corrected (apart (received_bytes o w) d), word_stored o w d) =
          e ∙ ap (found Refused (λ c. Corrected (apart (received_bytes o w) c)) (word_stored o w) o) q in
          record {
            long = long;
            found = λ t. (d, refl, q, ap (λ (p : Correction × List ℕ). p.1) a, ap (λ (p : Correction × List ℕ). changed_of p.0) a ∙ sym (zero-add _));
            lost = λ f. absurd (one_not_other refl f);
          }
  word_answered None next e long = go (bytes_restored o w) refl
    where
      go : (r : Option (List ℕ)) → bytes_restored o w ≡ r → WordDone o w true 0 next false 0
      go none q = record { long = long; found = λ t. absurd (one_not_other t refl); lost = λ f. inr q }
      go (some d) q =
          let a : ◌≡◌ {A = Correction × List ℕ} (Refused 5, next) (Corrected (apart (received_bytes o w) d), word_stored o w d) =
          e ∙ ap (found Refused (λ c. Corrected (apart (received_bytes o w) c)) (word_stored o w) o) q in
          absurd (corrected_refused (apart (received_bytes o w) d) 5 (sym (ap (λ (p : Correction × List ℕ). p.0) a)))

  -- the changes of a word join the count
  counted_on : (changed n : ℕ) (next : List ℕ) → WordDone o w true 0 next true n → WordDone o w true changed next true (changed + n)
  counted_on changed n next D =
      record {
        long = D.long;
        found = λ t. let f = D.found t in (f.0, f.1, f.2, f.3, ap (λ (m : ℕ). changed + m) (f.4 ∙ zero-add _));
        lost = D.lost;
      }

-- what the correction of a word asks for
pub word_errors : (lane word t : List ℕ) (e : Errors) → Remains true lane word → t ≡ lane → Decoded powers_c exponents_c t 255 e.places.at e.values e.places.count e.left → WordErrors word e
word_errors lane word t e R et D =
    let same : t ≡ root_values powers_c exponents_c word = et ∙ R.values refl in
    record { bytes = R.bytes refl; decoded = rw same at D }

-- ---- all words before word w

received_same : (b o : List ℕ) (w : ℕ) → 4080 * (w / 16) + 4080 ≤ length b → (changed : ℕ) → RestoredTo b w o changed → received_bytes o w ≡ received_bytes b w
unfolding received_bytes word_of
received_same b o w room changed T =
    tabulate_same 255 _ _ (λ s l. T.rest (4080 * (w / 16) + 16 * s + w % 16) (omega arith) (omega (arith, (place_back w s l).0)))

received_below : (b : List ℕ) (w : ℕ) → ((i : ℕ) → at b i < 256) → all_below 256 (received_bytes b w) ≡ true
unfolding received_bytes
received_below b w small = below_all 256 _ (λ i l. tabulate_lt 256 255 _ (lit< tt) (λ s. small _) i)

lane_values : (b : List ℕ) (r k : ℕ) → ((i : ℕ) → at b i < 256) → k < 16 →
    root_values powers_c exponents_c (lane_of (row_remainders b (4080 * r)) k) ≡ root_values powers_c exponents_c (received_bytes b (16 * r + k))
unfolding root_values lane_of
lane_values b r k small hk =
    tabulate_same 16 _ _ (λ j l.
    root_is 8 285 field_c (tabulate 16 (λ i. at (row_remainders b (4080 * r)) (16 * i + k))) (lane_below b r k small hk) j
    ∙ sym (word_remainder b r k small hk j l) ∙ sym (root_is 8 285 field_c (received_bytes b (16 * r + k)) (received_below b (16 * r + k) small) j))

-- the next word is as received, so that its remainder is that of the row
pub row_syndromes : (b rest s : List ℕ) (r : ℕ) → ((i : ℕ) → at b i < 256) → rest ≡ row_remainders b (4080 * r) → SyndromesTo rest 16 s → RowSyndromes b r s
row_syndromes b rest s r small e S =
    let S' : SyndromesTo (row_remainders b (4080 * r)) 16 s = rw e at S in
    record { each = λ k hk. lane_syndromes (row_remainders b (4080 * r)) s k hk (lane_below b r k small hk) S' ∙ lane_values b r k small hk }

pub part_syndromes : (b part rest s : List ℕ) (r k : ℕ) → k ≡ 4080 → ((i : ℕ) → at b i < 256) → part ≡ take k (drop (4080 * r) b) → rest ≡ row_remainders part 0 → SyndromesTo rest 16 s → RowSyndromes b r s
part_syndromes b part rest s r k n small e er S =
    row_syndromes b rest s r small (er ∙ part_remainders part b (4080 * r) (λ i l. ap (λ (p : List ℕ). at p i) e ∙ part_at k (4080 * r) b i (omega arith))) S

pub word_remains : (b o s : List ℕ) (r k : ℕ) (reached : Bool) (changed : ℕ) → ((i : ℕ) → at b i < 256) → RowSyndromes b r s → k < 16 → 4080 * r + 4080 ≤ length b →
    Restoring b (16 * r + k) o reached changed → Remains reached (lane_of s k) (received_bytes o (16 * r + k))
word_remains b o s r k reached changed small Y hk room S =
    record {
      values = λ t. Y.each k hk ∙ ap (root_values powers_c exponents_c) (sym (same t));
      bytes = λ t. ap (all_below 256) (same t) ∙ received_below b (16 * r + k) small;
    }
  where
    same : reached ≡ true → received_bytes o (16 * r + k) ≡ received_bytes b (16 * r + k)
    same t = received_same b o (16 * r + k) (omega arith) changed (S.so_far t)

pub alone_first : (r : ℕ) → r ≡ 0 → 1 ≡ alone r
unfolding alone
alone_first r e = rw (eq-eqb r 0 e)

pub alone_later : (r : ℕ) → (r ≡ 0 → ⊥) → 0 ≡ alone r
unfolding alone
alone_later r n = rw (ne_eqb r 0 n)

-- a step
module _ (b o next : List ℕ) (w : ℕ) (reached still : Bool) (changed sum : ℕ) (room : 4080 * (w / 16) + 4080 ≤ length b) (S : Restoring b w o reached changed)
    (D : WordDone o w reached changed next still sum) where
  module _ (t : still ≡ true) where
    abbrev c : List ℕ
    c = (D.found t).0

    abbrev T : RestoredTo b w o changed
    T = S.so_far (D.found t).1

    as_received : received_bytes o w ≡ received_bytes b w
    as_received = received_same b o w room changed T

    found_in_b : bytes_restored b w ≡ some c
    unfolding bytes_restored
    found_in_b = sym (ap (λ (v : List ℕ). nearest is_byte_word 256 8 v) as_received) ∙ (D.found t).2

    abbrev words' : ℕ → List ℕ
    words' v = cond (eqb v w) c (T.words v)

    words_here : words' w ≡ c
    words_here = ap (λ (b : Bool). cond b c (T.words w)) (eq-eqb w w refl)

    words_before : (v : ℕ) → v < w → words' v ≡ T.words v
    words_before v l = ap (λ (b : Bool). cond b c (T.words v)) (ne_eqb v w (λ e. omega arith))

    next_at : (i : ℕ) → i < length b → at next i ≡ cond (eqb (word_of i) w) (at c (byte_place i)) (at o i)
    unfolding word_stored
    next_at i l = ap (λ (n : List ℕ). at n i) (D.found t).3 ∙ tabulate_at (length o) _ i 0 (omega (arith, S.room))

    restored' : (v : ℕ) → v < w + 1 → bytes_restored b v ≡ some (words' v)
    restored' v l = go (ℕ_discrete v w)
      where
        go : Dec (v ≡ w) → bytes_restored b v ≡ some (words' v)
        go (yes e) = rw e (found_in_b ∙ ap some (sym words_here))
        go (no n) = let lt : v < w = omega arith in T.restored v lt ∙ ap some (sym (words_before v lt))

    done' : (i : ℕ) → i < length b → word_of i < w + 1 → at next i ≡ at (words' (word_of i)) (byte_place i)
    done' i l h = next_at i l ∙ go (ℕ_discrete (word_of i) w)
      where
        chosen : {b : Bool} → eqb (word_of i) w ≡ b → cond (eqb (word_of i) w) (at c (byte_place i)) (at o i) ≡ cond b (at c (byte_place i)) (at o i)
        chosen e = ap (λ (b : Bool). cond b (at c (byte_place i)) (at o i)) e

        go : Dec (word_of i ≡ w) → cond (eqb (word_of i) w) (at c (byte_place i)) (at o i) ≡ at (words' (word_of i)) (byte_place i)
        go (yes e) = chosen (eq-eqb (word_of i) w e) ∙ ap (λ (x : List ℕ). at x (byte_place i)) (sym (ap words' e ∙ words_here))
        go (no n) = let lt : word_of i < w = omega arith in chosen (ne_eqb (word_of i) w n) ∙ T.done i l lt ∙ ap (λ (x : List ℕ). at x (byte_place i)) (sym (words_before (word_of i) lt))

    rest' : (i : ℕ) → i < length b → w + 1 ≤ word_of i → at next i ≡ at b i
    rest' i l h = next_at i l ∙ rw (ne_eqb (word_of i) w (λ e. omega arith)) (T.rest i l (omega arith))

    count' : sum ≡ sum_to (w + 1) (λ v. apart (received_bytes b v) (words' v))
    unfolding sum_to
    count' =
        let n : w + 1 ≡ suc w = omega arith in
        let here : apart (received_bytes o w) c ≡ apart (received_bytes b w) (words' w) = ap₂ apart as_received (sym words_here) in
        let before : changed ≡ sum_to w (λ v. apart (received_bytes b v) (words' v)) = T.count ∙ sum_same w _ _ (λ v l. ap (apart (received_bytes b v)) (sym (words_before v l))) in
        (D.found t).4 ∙ ap₂ ◌+◌ before here ∙ sym (ap (λ (n : ℕ). sum_to n (λ v. apart (received_bytes b v) (words' v))) n)

    so_far' : RestoredTo b (w + 1) next sum
    so_far' = record { words = words'; restored = restored'; done = done'; rest = rest'; count = count' }

  lost_in_b : still ≡ false → (v : ℕ) × (v < w + 1) × (bytes_restored b v ≡ none)
  unfolding bytes_restored
  lost_in_b f = go (D.lost f) (bool reached)
    where
      bool : (x : Bool) → (x ≡ true) ⊎ (x ≡ false)
      bool true = inl refl
      bool false = inr refl

      before : reached ≡ false → (v : ℕ) × (v < w + 1) × (nearest is_byte_word 256 8 (received_bytes b v) ≡ none)
      before e = let l = S.lost e in (l.0, omega (arith, l.1), l.2)

      go : (reached ≡ false) ⊎ (nearest is_byte_word 256 8 (received_bytes o w) ≡ none) → (reached ≡ true) ⊎ (reached ≡ false) →
          (v : ℕ) × (v < w + 1) × (nearest is_byte_word 256 8 (received_bytes b v) ≡ none)
      go (inl e) x = before e
      go (inr n) (inr e) = before e
      go (inr n) (inl e) = (w, omega arith, ap (λ (v : List ℕ). nearest is_byte_word 256 8 v) (sym (received_same b o w room changed (S.so_far e))) ∙ n)

  pub restoring_next : sum ≤ changed + 8 → Restoring b (w + 1) next still sum
  restoring_next most = record { room = omega (arith, S.room, D.long); few = omega (arith, S.few); so_far = so_far'; lost = lost_in_b }

-- ---- the start and the end

none_counted : (f : ℕ → ℕ) → 0 ≡ sum_to 0 f
unfolding sum_to
none_counted f = refl

pub restoring_start : (b o : List ℕ) → o ≡ b → Restoring b 0 o true 0
restoring_start b o e =
    record {
      room = omega (arith, ap length e);
      few = omega arith;
      so_far = λ t. record {
        words = λ v. [];
        restored = λ v l. absurd (omega arith);
        done = λ i l h. absurd (omega arith);
        rest = λ i l h. ap (λ (o : List ℕ). at o i) e;
        count = none_counted (λ v. apart (received_bytes b v) []);
      };
      lost = λ f. absurd (one_not_other refl f);
    }

-- the same where the copy goes on behind the block
pub restoring_start_in_front : (b held o : List ℕ) (n : ℕ) → length b ≡ 4080 * n → n ≤ 4 → length held ≡ 16320 → o ≡ over held 0 (4080 * n) (λ i. at b (0 + i)) → Restoring b 0 o true 0
restoring_start_in_front b held o n long most room e =
    record {
      room = omega (arith, ap length e ∙ over_length held 0 (4080 * n) (λ i. at b (0 + i)));
      few = omega arith;
      so_far = λ t. record {
        words = λ v. [];
        restored = λ v l. absurd (omega arith);
        done = λ i l h. absurd (omega arith);
        rest = λ i l h. same i (omega arith);
        count = none_counted (λ v. apart (received_bytes b v) []);
      };
      lost = λ f. absurd (one_not_other refl f);
    }
  where
    zero_plus : (i : ℕ) → 0 + i ≡ i
    zero_plus i = omega arith

    same : (i : ℕ) → i < 4080 * n → at o i ≡ at b i
    same i l =
        ap (λ (o : List ℕ). at o i) e ∙ ap (at (over held 0 (4080 * n) (λ i. at b (0 + i)))) (sym (zero_plus i))
        ∙ over_in held 0 (4080 * n) (λ i. at b (0 + i)) i l (omega arith) ∙ ap (at b) (zero_plus i)

-- the steps of a row
at_word : (b o : List ℕ) (w v : ℕ) (reached : Bool) (changed : ℕ) → w ≡ v → Restoring b w o reached changed → Restoring b v o reached changed
at_word b o w v reached changed e S = rw e at S

module _ (b o : List ℕ) (r : ℕ) (reached : Bool) (changed : ℕ) where
  -- a word before the row had none
  pub row_skipped : not reached ≡ true → Restoring b (16 * r) o reached changed → Restoring b (16 * r + 16) o reached changed
  row_skipped n S =
      record {
        room = S.room;
        few = omega (arith, S.few);
        so_far = λ t. absurd (one_not_other t (not-true reached n));
        lost = λ f. let l = S.lost f in (l.0, omega (arith, l.1), l.2);
      }

  pub row_step : (k : ℕ) (next : List ℕ) (still : Bool) (sum : ℕ) → k < 16 → 4080 * r + 4080 ≤ length b → Restoring b (16 * r + k) o reached changed →
      WordDone o (16 * r + k) reached changed next still sum → sum ≤ changed + 8 → Restoring b (16 * r + (k + 1)) next still sum
  row_step k next still sum hk room S D most =
      at_word b next (16 * r + k + 1) (16 * r + (k + 1)) still sum (omega arith) (restoring_next b o next (16 * r + k) reached still changed sum (omega arith) S D most)

-- a word that has no code word near it decides
pub lost_on : (b o : List ℕ) (w v changed : ℕ) → w ≤ v → Restoring b w o false changed → Restoring b v o false 0
lost_on b o w v changed h S =
    record {
      room = S.room;
      few = omega arith;
      so_far = λ t. absurd (one_not_other t refl);
      lost = λ f. let l = S.lost f in (l.0, omega (arith, l.1), l.2);
    }

module _ (b o next : List ℕ) (r k changed : ℕ) (c : Answer ℕ) (hk : k < 16) (room : 4080 * r + 4080 ≤ length b) (S : Restoring b (16 * r + k) o true changed)
    (D : WordDone o (16 * r + k) true 0 next (is_some c) (count_found c)) where
  pub row_found : (n : ℕ) → c ≡ Some n → count_found c ≤ 8 → Restoring b (16 * r + (k + 1)) next true (changed + n)
  row_found n e few =
      let D' : WordDone o (16 * r + k) true 0 next true n = rw e at D in
      let few' : n ≤ 8 = rw e at few in
      row_step b o r true changed k next true (changed + n) hk room S (counted_on o (16 * r + k) changed n next D') (omega arith)

  pub row_lost : (to : ℕ) (d : Answer ℕ) → d ≡ None → c ≡ None → k < to → Restoring b (16 * r + to) next (is_some d) (count_found d)
  row_lost to d ed e h =
      let D' : WordDone o (16 * r + k) true 0 next false 0 = rw e at D in
      let D'' : WordDone o (16 * r + k) true changed next false 0 = record { long = D'.long; found = λ t. absurd (one_not_other t refl); lost = D'.lost } in
      rw ed (lost_on b next (16 * r + (k + 1)) (16 * r + to) 0 (omega arith) (row_step b o r true changed k next false 0 hk room S D'' (omega arith)))

-- an answer that is none stays so
pub none_on : (b o : List ℕ) (w v : ℕ) (c d : Answer ℕ) → d ≡ None → c ≡ None → w ≤ v → Restoring b w o (is_some c) (count_found c) → Restoring b v o (is_some d) (count_found d)
none_on b o w v c d ed e h S = let S' : Restoring b w o false 0 = rw e at S in rw ed (lost_on b o w v 0 h S')

module _ (n : ℕ) (b : List ℕ) (long : length b ≡ 4080 * n) (o : List ℕ) (changed : ℕ) (S : Restoring b (16 * n) o true changed) where
  abbrev A : RestoredTo b (16 * n) o changed
  A = S.so_far refl

  abbrev ws : List (List ℕ)
  ws = tabulate (16 * n) A.words

  all_there : every_of (tabulate (16 * n) (bytes_restored b)) ≡ some ws
  all_there = every_some (16 * n) (bytes_restored b) A.words A.restored

  word_lt : (i : ℕ) → i < 4080 * n → word_of i < 16 * n
  unfolding word_of
  word_lt i l = omega arith

  is_block_lem : (out : List ℕ) → length out ≡ 4080 * n → ((i : ℕ) → i < 4080 * n → at out i ≡ at o i) → out ≡ block_of_words n ws
  unfolding word_of byte_place
  is_block_lem out room same =
      ext_get_or 0 out (block_of_words n ws) (room ∙ sym (block_length n ws)) (λ i l.
      let m : i < 4080 * n = omega arith in
      same i m ∙ A.done i (omega arith) (word_lt i m)
      ∙ ap (λ (c : List ℕ). at c (i % 4080 / 16)) (sym (tabulate_at (16 * n) A.words (16 * (i / 4080) + i % 16) [] (word_lt i m)))
      ∙ sym (block_at n ws i m))

  word_here : (w : ℕ) → w < 16 * n → received_bytes (block_of_words n ws) w ≡ A.words w
  unfolding bytes_restored
  word_here w l =
      let e : get_or ws w [] ≡ A.words w = tabulate_at (16 * n) A.words w [] l in
      let full : length (A.words w) ≡ 255 = (byte_nearest.sound (received_bytes b w) (A.words w) (received_length b w) (A.restored w l)).0 in
      words_in_lem n ws w l (ap length e ∙ full) ∙ e

  count_is : changed ≡ apart b (block_of_words n ws)
  count_is = A.count ∙ sum_same (16 * n) _ _ (λ w l. ap (apart (received_bytes b w)) (sym (word_here w l))) ∙ sym (apart_words n b (block_of_words n ws) long)

  restored_answer : (buffer : List ℕ) → length buffer ≡ 4080 * n → length o ≡ 4080 * n → (refusal : ℕ) → ◌≡◌ {A = Correction × List ℕ} (Corrected changed, o) (block_corrected n refusal b buffer)
  unfolding block_corrected corrected restored_block found
  restored_answer buffer room full refusal =
      rw (eq-eqb (length b) (4080 * n) long, eq-eqb (length buffer) (4080 * n) room, all_there, ← count_is, ← is_block_lem o full (λ i l. refl))

  -- where the answer is the front of the copy
  front_answered : (buffer out : List ℕ) → length buffer ≡ 4080 * n → out ≡ over buffer 0 (4080 * n) (λ i. at o (0 + i)) → (refusal : ℕ) →
      ◌≡◌ {A = Correction × List ℕ} (Corrected changed, out) (block_corrected n refusal b buffer)
  unfolding block_corrected corrected restored_block found
  front_answered buffer out room e refusal =
      rw (
        eq-eqb (length b) (4080 * n) long,
        eq-eqb (length buffer) (4080 * n) room,
        all_there,
        ← count_is,
        is_block_lem out (ap length e ∙ over_length buffer 0 (4080 * n) (λ i. at o (0 + i)) ∙ room) (λ i l.
            let z : 0 + i ≡ i = omega arith in
            ap (λ (o : List ℕ). at o i) e ∙ ap (at (over buffer 0 (4080 * n) (λ i. at o (0 + i)))) (sym z)
            ∙ over_in buffer 0 (4080 * n) (λ i. at o (0 + i)) i l (omega arith) ∙ ap (at o) z),
      )

lost_answer : (n : ℕ) (b o : List ℕ) (changed : ℕ) → length b ≡ 4080 * n → Restoring b (16 * n) o false changed → (buffer : List ℕ) → length buffer ≡ 4080 * n → (refusal : ℕ) →
    ◌≡◌ {A = Correction × List ℕ} (Refused 5, buffer) (block_corrected n refusal b buffer)
unfolding block_corrected corrected restored_block found
lost_answer n b o changed long S buffer room refusal =
    let l = S.lost refl in
    rw (eq-eqb (length b) (4080 * n) long, eq-eqb (length buffer) (4080 * n) room, every_missing (16 * n) (bytes_restored b) l.0 l.1 l.2)

pub refused_long : (n refusal : ℕ) (b buffer : List ℕ) → 0 < refusal → (length b ≡ 4080 * n → ⊥) → ◌≡◌ {A = Correction × List ℕ} (Refused refusal, buffer) (block_corrected n refusal b buffer)
unfolding block_corrected corrected
refused_long n refusal b buffer h ne = rw (ne_eqb (length b) (4080 * n) ne, ne_eqb refusal 0 (λ e. omega arith))

pub refused_space : (n refusal : ℕ) (b buffer : List ℕ) → length b ≡ 4080 * n → (length buffer ≡ 4080 * n → ⊥) → ◌≡◌ {A = Correction × List ℕ} (Refused 3, buffer) (block_corrected n refusal b buffer)
unfolding block_corrected corrected
refused_space n refusal b buffer e ne = rw (eq-eqb (length b) (4080 * n) e, ne_eqb (length buffer) (4080 * n) ne)

module _ (n refusal : ℕ) (b buffer held : List ℕ) (c : Answer ℕ) (long : length b ≡ 4080 * n) (room : length buffer ≡ 4080 * n)
    (S : Restoring b (16 * n) held (is_some c) (count_found c)) where
  pub answer_restored : (changed : ℕ) (out : List ℕ) → c ≡ Some changed → length out ≡ 4080 * n → out ≡ held → ◌≡◌ {A = Correction × List ℕ} (Corrected changed, out) (block_corrected n refusal b buffer)
  answer_restored changed out t full e =
      let S' : Restoring b (16 * n) held true changed = rw t at S in
      let S'' : Restoring b (16 * n) out true changed = rw (← e) at S' in
      restored_answer n b long out changed S'' buffer room full refusal

  pub answer_lost : c ≡ None → ◌≡◌ {A = Correction × List ℕ} (Refused 5, buffer) (block_corrected n refusal b buffer)
  answer_lost f = let S' : Restoring b (16 * n) held false 0 = rw f at S in lost_answer n b held 0 long S' buffer room refusal

-- the same where the answer is the front of the copy
module _ (n refusal : ℕ) (b buffer held : List ℕ) (reached : Bool) (changed : ℕ) (long : length b ≡ 4080 * n) (room : length buffer ≡ 4080 * n)
    (S : Restoring b (16 * n) held reached changed) where
  pub front_restored : reached ≡ true → (out : List ℕ) → out ≡ over buffer 0 (4080 * n) (λ i. at held (0 + i)) →
      ◌≡◌ {A = Correction × List ℕ} (Corrected changed, out) (block_corrected n refusal b buffer)
  front_restored t out e = front_answered n b long held changed (rw t at S) buffer out room e refusal

-- ---- for the C host

pub count_left_out : (a : Correction × List ℕ) (r : Result ℕ Refusal) (out : List ℕ) (n : ℕ) → ◌≡◌ {A = Correction × List ℕ} (correction_of r, out) a → n ≡ refusal_number r → ◌≡◌ {A = ℕ × List ℕ} (n, out) (without_changes a)
unfolding without_changes
count_left_out a r out n e h = rw (← e, h) (told r)
  where
    told : (r : Result ℕ Refusal) → ◌≡◌ {A = ℕ × List ℕ} (refusal_number r, out) (refusal_of (correction_of r), out)
    told (Ok n) = refl
    told (Err x) = refl
