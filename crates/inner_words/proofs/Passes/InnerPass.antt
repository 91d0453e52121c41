-- The inner pass: what an inner word is restored to, and all inner words of a block one after the other. Assumes nothing.
use mathlib.Core.Path.{◌≡◌, refl, sym, ap, ap₂, ◌∙◌}
use mathlib.Core.Bool.{Bool, true, false, not, cond}
use mathlib.Core.List.{List, ◌++◌}
use mathlib.Core.Option.{Option, none, some, get_or, map}
use Prim.Native.Nat.{ℕ, ◌+◌, ◌*◌, ◌/◌, ◌%◌, ◌^◌, ◌≤◌, ◌<◌, zero-le}
use native.Mathlib.Decide.{ℕ_discrete}
use native.Mathlib.Nat.{le_refl, not-suc-le-zero}
use native.Mathlib.Numerals.{add-one}
use native.Mathlib.Omega.{arith}
use lib.ListN.{length, drop}
use lib.Pow.{pow_mono}
use mir.Syntax.{w64}
use mir.Val.{Fits, bool_byte}
use Rattle.std.specs.Array.{IsFirstChunk}
use Rattle.fields.specs.Places.{at}
use Rattle.fields.proofs.Lists.{tabulate_same}
use Rattle.fields.proofs.Places.Differences.{apart_self}
use Rattle.words.specs.Bits.{bit_of, number_of, bit_at}
use Rattle.words.specs.InnerCode.{is_inner}
use Rattle.words.specs.Nearest.{is_some, nearest}
use Rattle.words.specs.InnerWords.{inner_word, inner_restored, inner_pass, is_lost}
use Rattle.words.proofs.Bits.Numbers.{bit_of_zero, number_of_lt, number_of_same}
use Rattle.words.proofs.Codes.InnerWords.{inner_is}
use Rattle.words.proofs.Codes.Proved.{codes}
use Rattle.inner_words.specs.Steps.InnerResidues.{residues_of, WordResidues}
use Rattle.inner_words.specs.Steps.Passes.{wrong_words, lost_words, WordRestored, WordNearer, OneWord, EachWord, InnerPassed}
use Rattle.inner_words.proofs.Interleaving.LentBlock.{lent_whole, lent_back}
use Rattle.inner_words.proofs.Interleaving.InterleavedBits.{bit_to_place, inner_word_length}
use Rattle.inner_words.proofs.Remainders.ResidueCodes.{whole_residues, residues_kept}
use Rattle.inner_words.proofs.Passes.WrongWords.{wrong_lt, wrong_other, wrong_not, wrong_no, wrong_bit}

-- ---- an inner word

module _ (w : List ℕ) where
  pub restored_none : nearest is_inner 2 8 w ≡ none → inner_restored w ≡ w
  unfolding inner_restored
  restored_none e = rw e

  pub restored_some : (c : List ℕ) → nearest is_inner 2 8 w ≡ some c → inner_restored w ≡ c
  unfolding inner_restored
  restored_some c e = rw e

  -- a code word is the nearest one to itself
  code_nearest : is_inner w ≡ true → nearest is_inner 2 8 w ≡ some w
  code_nearest h = let l = (inner_is w h).long in codes.inner_nearest.complete w w l l h (omega (arith, apart_self w))

  pub restored_code : is_inner w ≡ true → inner_restored w ≡ w
  restored_code h = restored_some w (code_nearest h)

  -- a word without a code word within eight places is none
  pub lost_wrong : nearest is_inner 2 8 w ≡ none → is_inner w ≡ false
  lost_wrong e = go (is_inner w) refl
    where
      go : (t : Bool) → is_inner w ≡ t → t ≡ false
      go false h = refl
      go true h = absurd (omega (arith, ap {B = ℕ} (λ (o : Option (List ℕ)). get_or (map (λ (c : List ℕ). 1) o) 0) (sym (code_nearest h) ∙ e)))

pub restored_length : (w : List ℕ) → length w ≡ 2040 → length (inner_restored w) ≡ 2040
unfolding inner_restored
restored_length w long = go (nearest is_inner 2 8 w) refl
  where
    go : (o : Option (List ℕ)) → nearest is_inner 2 8 w ≡ o → length (get_or o w) ≡ 2040
    go none e = long
    go (some c) e = (codes.inner_nearest.sound w c long e).0

-- what an inner word is restored to is a code word just where there is one within eight places
pub restored_is : (w : List ℕ) → length w ≡ 2040 → is_inner (inner_restored w) ≡ is_some (nearest is_inner 2 8 w)
restored_is w long = go (nearest is_inner 2 8 w) refl
  where
    go : (o : Option (List ℕ)) → nearest is_inner 2 8 w ≡ o → is_inner (inner_restored w) ≡ is_some o
    go none e = ap is_inner (restored_none w e) ∙ lost_wrong w e
    go (some c) e = ap is_inner (restored_some w c e) ∙ (codes.inner_nearest.sound w c long e).1

pub nearer_self : (w : List ℕ) → WordNearer w w
nearer_self w = record { same = refl; kept = λ e. refl }

-- ---- one inner word of a block

-- 1 for an inner word that is no code word
abbrev pub wrong_at : List ℕ → ℕ → ℕ
wrong_at block k = cond (is_inner (inner_word (bit_at block) k)) 0 1

-- bits that change outside inner word k leave the other inner words
pub word_other : (before after : List ℕ) (k : ℕ) → ((i : ℕ) → i < 130560 → (i % 64 ≡ k → ⊥) → bit_at after i ≡ bit_at before i) → (j : ℕ) → j < 64 → (j ≡ k → ⊥) →
    inner_word (bit_at after) j ≡ inner_word (bit_at before) j
unfolding inner_word
word_other before after k others j h n = tabulate_same 2040 _ _ (λ p l. others (64 * p + j) (omega arith) (λ e. n (omega arith)))

pub word_stays : {P : List ℕ → List ℕ → Type 0} {block : List ℕ} {k bit : ℕ} → bit ≡ wrong_at block k →
    P (inner_word (bit_at block) k) (inner_word (bit_at block) k) → OneWord P k block block bit
word_stays told p = record { long = refl; told = told; word = p; others = λ j h n. refl }

-- an inner word that is restored to a code word has come nearer
pub restored_nearer : (k : ℕ) (before after : List ℕ) (r : Bool) → (r ≡ true → OneWord WordRestored k before after 0) → r ≡ true →
    OneWord WordNearer k before after 0
restored_nearer k before after r corrected t =
    let o = corrected t in
    let v = inner_word (bit_at after) k in
    let code : is_inner v ≡ true = wrong_not (is_inner v) (sym o.told) in
    record {
      long = o.long;
      told = o.told;
      word = record {
        same = restored_code v code ∙ o.word.is;
        kept = λ e. absurd (omega (arith, ap {B = ℕ} (λ (t : Bool). cond t 0 1) (sym code ∙ e)));
      };
      others = o.others;
    }

-- inner word k is among those that are wrong, or is not
module _ (block : List ℕ) (k x : ℕ) (t : Bool) (among : ◌≡◌ {A = ℕ} (cond t 1 0) (bit_of 64 x k)) (told : bit_of 64 x k ≡ wrong_at block k) where
  abbrev w : List ℕ
  w = inner_word (bit_at block) k

  wrong_set : t ≡ true → bit_of 64 x k ≡ 1
  wrong_set e = sym among ∙ ap {B = ℕ} (λ (t : Bool). cond t 1 0) e

  -- what a try leaves
  pub tried_nearer : t ≡ true → (after : List ℕ) (r : Bool) → (r ≡ true → OneWord WordRestored k block after 0) → (r ≡ false → after ≡ block) →
      OneWord WordNearer k block after (cond (not r) 1 0)
  tried_nearer e after true corrected same = restored_nearer k block after true corrected refl
  tried_nearer e after false corrected same = rw (same refl) (word_stays (sym (wrong_set e) ∙ told) (nearer_self w))

  -- a word that is not among those that are wrong is a code word
  right : t ≡ false → 0 ≡ wrong_at block k
  right e = ap {B = ℕ} (λ (t : Bool). cond t 1 0) (sym e) ∙ among ∙ told

  pub right_restored : t ≡ false → OneWord WordRestored k block block 0
  right_restored e = word_stays (right e) (record { is = sym (restored_code w (wrong_not (is_inner w) (sym (right e)))) })

-- ---- the inner words one after the other

-- the invariant: the first k inner words stand to what they were as P says, the others are as they were; `left` has a 1 for those of the first k that are no
-- code words
pub record Going (P : List ℕ → List ℕ → Type 0) (before : List ℕ) (k left : ℕ) (after : List ℕ) : Type 0 where
  pub within : k ≤ 64
  pub long : length after ≡ length before
  pub value : left ≡ number_of k (wrong_at after)
  pub done : (j : ℕ) → j < k → P (inner_word (bit_at before) j) (inner_word (bit_at after) j)
  pub ahead : (j : ℕ) → k ≤ j → j < 64 → inner_word (bit_at after) j ≡ inner_word (bit_at before) j

module _ {P : List ℕ → List ℕ → Type 0} where
  pub going_start : {before : List ℕ} → Going P before 0 0 before
  unfolding number_of
  going_start =
      record { within = zero-le; long = refl; value = refl; done = λ j h. absurd (not-suc-le-zero h); ahead = λ j l h. refl }

  module _ {before after : List ℕ} {k left : ℕ} (s : Going P before k left after) where
    -- the wrong words were found before, and so were their residues
    pub going_wrong : {x : ℕ} → x ≡ wrong_words (bit_at before) → k < 64 → bit_of 64 x k ≡ wrong_at after k
    going_wrong e h = rw (e, s.ahead k (le_refl k) h) (wrong_bit (bit_at before) k h)

    pub going_residues : {residues : List ℕ} (x : ℕ) → k < 64 → ((k : ℕ) → k < 64 → bit_of 64 x k ≡ 1 → WordResidues residues k before) → bit_of 64 x k ≡ 1 →
        WordResidues residues k after
    going_residues x h R set = residues_kept (s.ahead k (le_refl k) h) (R k h set)

    going_lt : k < 64 → left < 2 ^ 63
    going_lt l =
        omega (arith, s.value, number_of_lt (wrong_at after) (λ j. wrong_lt (is_inner (inner_word (bit_at after) j))) k, pow_mono {i = k} {j = 63} (omega arith))

    pub going_twice : k < 64 → Fits w64 (2 * left)
    going_twice l = record { fits = omega (arith, going_lt l) }

    module _ {next : List ℕ} {bit : ℕ} (h : k < 64) (w : OneWord P k after next bit) where
      pub going_fits : Fits w64 (2 * left + bit)
      going_fits = record { fits = omega (arith, going_lt h, w.told, wrong_lt (is_inner (inner_word (bit_at next) k))) }

      pub going_next : Going P before (k + 1) (2 * left + bit) next
      unfolding number_of
      going_next =
          record {
            within = omega arith;
            long = w.long ∙ s.long;
            value = rw (add-one) (ap₂ (λ (x y : ℕ). 2 * x + y)
                (s.value ∙ number_of_same k _ _ (λ j l. ap (λ (v : List ℕ). cond (is_inner v) 0 1) (sym (w.others j (omega arith) (λ e. omega arith))))) w.told);
            done = λ j l. here j l (ℕ_discrete j k);
            ahead = λ j l b. w.others j b (λ e. omega arith) ∙ s.ahead j (omega arith) b;
          }
        where
          here : (j : ℕ) → j < k + 1 → Dec (j ≡ k) → P (inner_word (bit_at before) j) (inner_word (bit_at next) j)
          here j l (yes e) = rw (e, ← s.ahead k (le_refl k) h) w.word
          here j l (no n) = rw (w.others j (omega arith) n) (s.done j (omega arith))

    pub going_left : 64 ≤ k → left ≡ wrong_words (bit_at after)
    unfolding wrong_words
    going_left h = let e : k ≡ 64 = omega (arith, s.within) in rw e at s.value

    pub going_end : 64 ≤ k → EachWord P before after
    going_end h = record { long = s.long; word = λ j l. s.done j (omega arith) }

-- an answer as a number
pub as_bit : (t : Bool) → ◌≡◌ {A = ℕ} (bool_byte t) (cond t 1 0)
as_bit true = refl
as_bit false = refl

-- ---- one way after the other

pub nearer_twice : (before mid after : List ℕ) → EachWord WordNearer before mid → EachWord WordNearer mid after → EachWord WordNearer before after
nearer_twice before mid after m n =
    record {
      long = n.long ∙ m.long;
      word = λ k l. record {
        same = (n.word k l).same ∙ (m.word k l).same;
        kept = λ e. let q = (n.word k l).kept e in q ∙ (m.word k l).kept (ap is_inner (sym q) ∙ e);
      };
    }

-- a word that is left wrong is as it was, and has the residues that it had
pub left_residues : (residues before after : List ℕ) (x : ℕ) → EachWord WordNearer before after → x ≡ wrong_words (bit_at after) →
    residues ≡ residues_of before (5 + 11 * 185) → (k : ℕ) → k < 64 → bit_of 64 x k ≡ 1 → WordResidues residues k after
left_residues residues before after x n told e k l q =
    residues_kept ((n.word k l).kept (wrong_no (is_inner (inner_word (bit_at after) k)) (sym (wrong_bit (bit_at after) k l) ∙ rw told at q)))
    (whole_residues residues before e k l)

-- where no word is wrong each is restored
pub none_restored : (block : List ℕ) (x : ℕ) → x ≡ wrong_words (bit_at block) → x ≡ 0 → EachWord WordRestored block block
none_restored block x told e =
    record {
      long = refl;
      word = λ k l.
          let w = inner_word (bit_at block) k in
          let right : wrong_at block k ≡ 0 = sym (wrong_bit (bit_at block) k l) ∙ ap (λ (y : ℕ). bit_of 64 y k) (sym told ∙ e) ∙ bit_of_zero 64 k in
          record { is = sym (restored_code w (wrong_not (is_inner w) right)) };
    }

-- what is left wrong was left as received
pub pass_restored : (before after : List ℕ) (x : ℕ) → EachWord WordRestored before after → x ≡ wrong_words (bit_at after) → InnerPassed before after x
unfolding inner_pass wrong_words lost_words is_lost
pass_restored before after x r told =
    record {
      long = r.long;
      bits = λ i b. bit_to_place (bit_at after) i b ∙ ap (λ (w : List ℕ). at w (i / 64)) (r.word (i % 64) (omega arith)).is;
      lost = told ∙ number_of_same 64 _ _ (λ k l.
          let w = inner_word (bit_at before) k in
          ap (λ (t : Bool). cond t 0 1) (ap is_inner (r.word k l).is ∙ restored_is w (inner_word_length (bit_at before) k)) ∙ wrong_other (is_some (nearest is_inner 2 8 w)));
      wrong = told;
    }

-- what has come nearer, and is restored then, is restored
pub nearer_restored : (before mid after : List ℕ) → EachWord WordNearer before mid → EachWord WordRestored mid after → EachWord WordRestored before after
nearer_restored before mid after n r =
    record { long = r.long ∙ n.long; word = λ k l. record { is = (r.word k l).is ∙ (n.word k l).same } }

-- over a block that is lent as an array
pub pass_lent : (block array after : List ℕ) {x : ℕ} → IsFirstChunk block array 16320 → length block ≡ 16320 → EachWord WordRestored array after →
    x ≡ wrong_words (bit_at after) → InnerPassed block (after ++ drop 16320 block) x
pass_lent block array after {x} f long r told =
    let e = lent_whole block array f long in
    rw (lent_back block after long) (rw e at (pass_restored array after x r told))
