-- The outer pass: the outer words of a block, one after the other, are written into the outer symbols and become the permitted code words near them. Assumes nothing.
use mathlib.Core.Path.{◌≡◌, refl, sym, ap, ◌∙◌, subst}
use mathlib.Core.Bool.{Bool, true, false, cond}
use mathlib.Core.List.{List}
use mathlib.Core.Option.{Option, none, some}
use Prim.Native.Nat.{ℕ, ◌+◌, ◌*◌, ◌≤◌, ◌<◌, zero-le}
use native.Mathlib.Decide.{ℕ_discrete}
use native.Mathlib.Nat.{not-suc-le-zero}
use native.Mathlib.Omega.{arith}
use borrow.Author.Tests.{eq-eqb, le-leb, le-ltb, lt-ltb}
use borrow.Rule.Slice.PartMut.{put_mid}
use lib.Bits.{bit_and, bit_or, and_mask}
use lib.Dec.{eqb}
use lib.ListN.{length, take, drop, replicate, length-replicate}
use lib.Seq.{length-take-le}
use Rattle.std.specs.Bool.{then_some}
use Rattle.std.specs.Option.{is_some}
use Rattle.std.specs.Prelude.{Result, Ok, Err, Some, None}
use Rattle.std.specs.Result.{result_ok}
use Rattle.fields.specs.Places.{at, all_below, apart}
use Rattle.fields.specs.Steps.Buffers.{Placed}
use Rattle.fields.proofs.Lists.{tabulate_is, tabulate_same}
use Rattle.fields.proofs.Places.Differences.{apart_self}
use Rattle.words.specs.Bits.{bit_at}
use Rattle.words.specs.OuterCode.{is_outer}
use Rattle.words.specs.Steps.Division.{outer_remainder}
use Rattle.words.specs.Steps.SixSymbols.{Packs}
use Rattle.words.specs.Nearest.{nearest, every_of}
use Rattle.words.specs.Answers.{refusal, within, found, corrected, outer_corrected}
use Rattle.words.specs.declared.Refusal.{Refusal}
use Rattle.words.specs.Corrections.{Correction, Corrected, Refused, correction_of, refusal_of}
use Rattle.words.proofs.Codes.Proved.{codes}
use Rattle.frames.specs.Frames.{data_in}
use Rattle.frames.specs.Correction.{received_symbol, received_word, is_padded, is_permitted, outer_restored, outer_pass}
use Rattle.frames.specs.Steps.Symbols.{part_from, word_in}
use Rattle.frames.specs.Steps.Passes.{provided, words_in}
use Rattle.frames.proofs.Frames.FrameBits.{data_in_le, data_in_is}
use Rattle.words.proofs.Codes.Options.{every_some, every_missing}
use Rattle.frames.proofs.OuterSymbols.Permitted.{permitted_none, permitted_some, permitted_not}
use Rattle.frames.proofs.Numbers.Slices.{placed_slice}
use Rattle.frames.proofs.Numbers.Parts.{part_length}
use Rattle.frames.proofs.OuterSymbols.Received.{received_length}
use Rattle.frames.proofs.OuterSymbols.Words.{symbols_word_part, code_tested, received_word_lem, received_below}

-- ---- padding bits

pub padded_first : (w : ℕ) (c : List ℕ) → w < 15 → true ≡ is_padded w c
unfolding is_padded
padded_first w c l = rw (lt-ltb w 15 l)

pub padded_last : (w : ℕ) (c : List ℕ) (s : ℕ) → 15 ≤ w → s ≡ at c 761 → eqb (bit_and s 3) 0 ≡ is_padded w c
unfolding is_padded
padded_last w c s g e = rw (le-ltb w 15 g, and_mask s 2, e)

-- ---- one word

word_short : (w n : ℕ) → n ≡ data_in w + 16 → n ≤ 1023
word_short w n e = omega (arith, data_in_le w)

-- the permitted code word near a code word is that word, if it is padded
code_nearest : (w : ℕ) (u : List ℕ) (r : Bool) → length u ≤ 1023 → is_outer u ≡ true → r ≡ is_padded w u → provided r u ≡ nearest (is_permitted w) 1024 8 u
unfolding provided
code_nearest w u r short h e = go r e
  where
    self : nearest is_outer 1024 8 u ≡ some u
    self = (codes.outer_nearest (length u) short).complete u u refl refl h (omega (arith, apart_self u))

    go : (r : Bool) → r ≡ is_padded w u → cond r (some u) none ≡ nearest (is_permitted w) 1024 8 u
    go true p = sym (permitted_some w u short u self (sym p))
    go false p = sym (permitted_not w u short u self (sym p))

-- the space for a word
abbrev zeros : ℕ → List ℕ
zeros n = replicate n 0

pub space_long : (w : ℕ) (u : List ℕ) → length u ≡ data_in w + 16 → length (take (length u) (zeros 781)) ≡ length u
space_long w u e = length-take-le (length u) (zeros 781) (omega (arith, data_in_le w, length-replicate {A = ℕ} 781 0))

-- which case an answer is
abbrev case_of : Correction → ℕ
case_of (Corrected changed) = 0
case_of (Refused number) = 1

-- an answer, where it does not count how many symbols were changed, and why not
pub corrected_is : (r : Result ℕ Refusal) (k : ℕ) → result_ok r ≡ Some k → correction_of r ≡ Corrected k
corrected_is (Ok a) k e = cc
corrected_is (Err f) k e = cc

pub refused_is : (r : Result ℕ Refusal) → result_ok r ≡ None → correction_of r ≡ Refused (refusal_of (correction_of r))
refused_is (Ok a) e = cc
refused_is (Err f) e = refl

-- a test as an answer
pub kept_is : {A : Type 0} (b : Bool) (x : A) → is_some (then_some b x) ≡ b
kept_is true x = refl
kept_is false x = refl

-- a word of a block, in its place
module _ (w : ℕ) (h : w < 16) (u : List ℕ) (long : length u ≡ data_in w + 16) (below : all_below 1024 u ≡ true) where
  short : length u ≤ 1023
  short = word_short w (length u) long

  pub code_kept : (x y z : ℕ) → Packs x y z (outer_remainder u) → (t : Bool) → t ≡ eqb (bit_or (bit_or x y) z) 0 → t ≡ true → (r : Bool) → r ≡ is_padded w u →
      provided r u ≡ nearest (is_permitted w) 1024 8 u
  code_kept x y z p t test is_code r q = code_nearest w u r short (sym (code_tested w u long below x y z p t test) ∙ is_code) q

  module _ (space : List ℕ) where
    -- the answer, if o is the nearest code word or none
    abbrev outer_found : Option (List ℕ) → Correction × List ℕ
    outer_found o = found Refused (λ c. Corrected (apart u c)) (λ c. c) space o

    answer : length space ≡ length u → outer_corrected u space ≡ outer_found (nearest is_outer 1024 8 u)
    unfolding outer_corrected corrected refusal within
    answer fits =
        let least : 17 ≤ length u = omega (arith, data_in_is w h) in
        rw (le-leb 17 (length u) least, le-leb (length u) 1023 short, eq-eqb (length space) (length u) fits, below)

    module _ (r : Correction) (after : List ℕ) (told : ◌≡◌ {A = Correction × List ℕ} (r, after) (outer_corrected u space)) (fits : length space ≡ length u) (k : ℕ) where
      abbrev Told : Correction → Option (List ℕ) → Type 0
      Told s o = ◌≡◌ {A = Correction × List ℕ} (s, after) (outer_found o)

      outer_lost : r ≡ Refused k → nearest is_outer 1024 8 u ≡ none
      unfolding found
      outer_lost e = go (nearest is_outer 1024 8 u) (rw e at told ∙ answer fits)
        where
          go : (o : Option (List ℕ)) → Told (Refused k) o → o ≡ none
          go none t = refl
          go (some c) t = let z : ◌≡◌ {A = ℕ} 1 0 = ap (λ (a : Correction × List ℕ). case_of a.0) t in absurd (omega arith)

      pub restored_none : r ≡ Refused k → provided false u ≡ nearest (is_permitted w) 1024 8 u
      unfolding provided
      restored_none e = sym (permitted_none w u short (outer_lost e))

      module _ (e : r ≡ Corrected k) (t : Bool) (test : t ≡ is_padded w after) where
        outer_found_lem : nearest is_outer 1024 8 u ≡ some after
        unfolding found
        outer_found_lem = go (nearest is_outer 1024 8 u) (rw e at told ∙ answer fits)
          where
            go : (o : Option (List ℕ)) → Told (Corrected k) o → o ≡ some after
            go none t = let z : ◌≡◌ {A = ℕ} 0 1 = ap (λ (a : Correction × List ℕ). case_of a.0) t in absurd (omega arith)
            go (some c) t = ap some (sym (ap (λ (a : Correction × List ℕ). a.1) t))

        pub restored_not : t ≡ false → provided false u ≡ nearest (is_permitted w) 1024 8 u
        unfolding provided
        restored_not f = sym (permitted_not w u short after outer_found_lem (sym test ∙ f))

        pub restored_word : t ≡ true → (next : List ℕ) → next ≡ after → provided true next ≡ nearest (is_permitted w) 1024 8 u
        unfolding provided
        restored_word f next same = ap some same ∙ sym (permitted_some w u short after outer_found_lem (sym test ∙ f))

-- ---- all words

-- the invariant: the first w words of the block are restored
pub record Restoring (b : ℕ → ℕ) (w : ℕ) (outer : List ℕ) : Type 0 where
  pub long : length outer ≡ 12496
  pub within : w ≤ 16
  pub done : (v : ℕ) → v < w → outer_restored b v ≡ some (word_in outer v)

pub restoring_start : {b : ℕ → ℕ} {outer : List ℕ} → length outer ≡ 12496 → Restoring b 0 outer
restoring_start e = record { long = e; within = zero-le; done = λ v h. absurd (not-suc-le-zero h) }

-- the next word is written, and then restored
module _ (bytes : List ℕ) (w k n : ℕ) {outer word : List ℕ} (so_far : Restoring (bit_at bytes) w outer) (h : w < 16) (ek : k ≡ 781)
    (e : word ≡ part_from (received_symbol (bit_at bytes)) (781 * w) 781) (en : n ≡ data_in w + 16) where
  abbrev mid : List ℕ
  mid = put_mid (781 * w) k outer word

  received : Placed (781 * w) (part_from (received_symbol (bit_at bytes)) (781 * w) 781) outer mid
  received =
      let long : length word ≡ k = ap length e ∙ part_length (received_symbol (bit_at bytes)) (781 * w) 781 ∙ sym ek in
      subst (λ (xs : List ℕ). Placed (781 * w) xs outer mid) e (placed_slice (781 * w) k word outer long (omega (arith, so_far.long)))

  mid_long : length mid ≡ 12496
  mid_long = received.long ∙ so_far.long

  word_is : take n (drop (781 * w) mid) ≡ received_word (bit_at bytes) w
  word_is = symbols_word_part mid w n mid_long h en ∙ received_word_lem (bit_at bytes) w received

  pub restoring_long : length (take n (drop (781 * w) mid)) ≡ data_in w + 16
  restoring_long = ap length word_is ∙ received_length (bit_at bytes) w

  pub restoring_below : all_below 1024 (take n (drop (781 * w) mid)) ≡ true
  restoring_below = rw word_is (received_below bytes w)

  module _ (s : ℕ) (v : List ℕ) where
    abbrev after : List ℕ
    after = put_mid (781 * w) s mid v

    module _ (es : s ≡ n) (kept : length v ≡ length (take n (drop (781 * w) mid))) where
      lv : length v ≡ n
      lv = kept ∙ restoring_long ∙ sym en

      restored : Placed (781 * w) v mid after
      restored = placed_slice (781 * w) s v mid (lv ∙ sym es) (omega (arith, mid_long, data_in_le w))

      there : word_in after w ≡ v
      unfolding word_in
      there = sym (tabulate_is (data_in w + 16) _ v 0 (lv ∙ en) (λ i l. sym (restored.inside i (omega (arith, lv)))))

      earlier : (i : ℕ) → i < w → word_in after i ≡ word_in outer i
      unfolding word_in
      earlier i l =
          tabulate_same (data_in i + 16) _ _ (λ j b. restored.below (781 * i + j) (omega (arith, data_in_le i)) ∙ received.below (781 * i + j) (omega (arith, data_in_le i)))

      module _ (t : Bool) (r : provided t v ≡ nearest (is_permitted w) 1024 8 (take n (drop (781 * w) mid))) where
        near : outer_restored (bit_at bytes) w ≡ provided t v
        unfolding outer_restored
        near = ap (nearest (is_permitted w) 1024 8) (sym word_is) ∙ sym r

        pub restoring_next : t ≡ true → Restoring (bit_at bytes) (w + 1) after
        unfolding provided
        restoring_next f = record { long = restored.long ∙ mid_long; within = omega arith; done = λ i l. go i l (ℕ_discrete i w) }
          where
            go : (i : ℕ) → i < w + 1 → Dec (i ≡ w) → outer_restored (bit_at bytes) i ≡ some (word_in after i)
            go i l (yes q) =
                ap (outer_restored (bit_at bytes)) q ∙ near ∙ ap (λ (b : Bool). provided b v) f ∙ ap some (sym there ∙ ap (word_in after) (sym q))
            go i l (no q) = so_far.done i (omega arith) ∙ ap some (sym (earlier i (omega arith)))

        pub restoring_not : t ≡ false → provided false (words_in after) ≡ every_of (outer_pass (bit_at bytes))
        unfolding provided outer_pass
        restoring_not f = sym (every_missing 16 _ w h (near ∙ ap (λ (b : Bool). provided b v) f))

pub restoring_end : {b : ℕ → ℕ} {w : ℕ} {outer : List ℕ} → Restoring b w outer → 16 ≤ w → provided true (words_in outer) ≡ every_of (outer_pass b)
unfolding provided outer_pass words_in
restoring_end {b} {w} {outer} r g = sym (every_some 16 _ (word_in outer) (λ v l. r.done v (omega arith)))
