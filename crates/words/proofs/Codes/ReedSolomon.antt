-- Reed-Solomon codes over any binary field, with any first root and any number of roots: parity symbols, the minimum distance, and decoding within half of it.
-- Assumes nothing.
use mathlib.Core.Path.{◌≡◌, sym, ap, ◌∙◌}
use mathlib.Core.Bool.{Bool, true, and-eq-true_iff}
use mathlib.Core.List.{List, ◌++◌}
use Prim.Native.Nat.{ℕ, suc, ◌+◌, ◌*◌, ◌^◌, ◌≤◌, ◌<◌}
use native.Mathlib.Decide.{dec_le}
use native.Mathlib.Nat.{zero-add}
use native.Mathlib.Omega.{arith}
use borrow.Author.Tests.{eq-eqb, eqb-true}
use lib.Dec.{eqb}
use lib.ListN.{length, take, drop, length-append, length-drop, take-append-drop, get_or-append}
use lib.Pow.{pow_pos}
use lib.Seq.{drop-append_seam, ext_get_or, get_or-drop, length-take-le}
use Rattle.fields.specs.Elements.{times, power, powers, exponents}
use Rattle.fields.specs.Field.{Field}
use Rattle.fields.specs.Places.{at, every, all_below, value, apart}
use Rattle.fields.proofs.ByTables.{table_power_lem}
use Rattle.fields.proofs.Places.Tests.{every_at, every_true, below_at, below_all, below_append, below_take}
use Rattle.fields.proofs.Places.Counting.{apart_append}
use Rattle.decoding.specs.Steps.ByTables.{table_value, root_value}
use Rattle.decoding.proofs.Algebra.MinimumDistance.{far_lists}
use Rattle.words.specs.ReedSolomon.{value_at_root, is_code_word, generator_of, parity_of}
use Rattle.words.specs.Nearest.{Decodes}
use Rattle.words.specs.Codes.{ReedSolomon}
use Rattle.words.proofs.Codes.TableValues.{value_by_tables, divided_lt}
use Rattle.words.proofs.Codes.Division.{divided_length, completed_value}
use Rattle.words.proofs.Codes.GeneratorRoots.{generator_length, generator_elements, generator_monic, generator_vanishes}
use Rattle.words.proofs.Codes.Nearest.{decodes}

module _ (m p : ℕ) (F : Field m p) where
  -- the values at a^0, a^1, .. over the tables of the field
  pub root_is : (w : List ℕ) → all_below (2 ^ m) w ≡ true → (j : ℕ) → root_value (powers m p) (exponents m p) w j ≡ value_at_root m p 0 w j
  unfolding root_value value_at_root
  root_is w h j =
      ap (table_value (powers m p) (exponents m p) w) (table_power_lem m p F j) ∙ value_by_tables m p F _ (F.power_lt j) w (below_at (2 ^ m) w (pow_pos m) h)
      ∙ ap (λ (i : ℕ). value m p (power m p i) (at w) (length w)) (sym (zero-add j))

-- ---- code words

module _ (m p first roots : ℕ) where
  pub record CodeWord (w : List ℕ) : Type 0 where
    pub symbols : (i : ℕ) → at w i < 2 ^ m
    pub zeros : (j : ℕ) → j < roots → value_at_root m p first w j ≡ 0

  pub code_is : (w : List ℕ) → is_code_word m p first roots w ≡ true → CodeWord w
  unfolding is_code_word
  code_is w h =
      let a = (and-eq-true_iff (all_below (2 ^ m) w) (every roots (λ j. eqb (value_at_root m p first w j) 0))).0 h in
      record { symbols = below_at (2 ^ m) w (pow_pos m) a.0; zeros = λ j l. eqb-true _ _ (every_at roots (λ j. eqb (value_at_root m p first w j) 0) a.1 j l) }

  pub is_code_lem : (w : List ℕ) → all_below (2 ^ m) w ≡ true → ((j : ℕ) → j < roots → value_at_root m p first w j ≡ 0) → is_code_word m p first roots w ≡ true
  unfolding is_code_word
  is_code_lem w h z = rw h (every_true roots _ (λ j l. eq-eqb (value_at_root m p first w j) 0 (z j l)))

module _ (m p first roots : ℕ) (F : Field m p) where
  abbrev is_code : List ℕ → Bool
  is_code = is_code_word m p first roots

  abbrev parity : List ℕ → List ℕ
  parity = parity_of m p first roots

  -- ---- distance and decoding

  code_far : (c d : List ℕ) → is_code c ≡ true → is_code d ≡ true → length c ≡ length d → length c < 2 ^ m → apart c d ≤ roots → c ≡ d
  unfolding value_at_root
  code_far c d hc hd same short =
      let oc = code_is m p first roots c hc in
      let od = code_is m p first roots d hd in
      far_lists m p F first roots c d same (omega arith) oc.symbols od.symbols (λ j l. oc.zeros j l ∙ sym (od.zeros j l))

  distance : (c d : List ℕ) → is_code c ≡ true → is_code d ≡ true → length c ≡ length d → length c < 2 ^ m → (c ≡ d → ⊥) → suc roots ≤ apart c d
  distance c d hc hd same short other = go (dec_le (suc roots) (apart c d))
    where
      go : Dec (suc roots ≤ apart c d) → suc roots ≤ apart c d
      go (yes h) = h
      go (no h) = absurd (other (code_far c d hc hd same short (omega arith)))

  code_nearest : (t n : ℕ) → 2 * t ≤ roots → n < 2 ^ m → Decodes is_code (2 ^ m) t n
  code_nearest t n half short =
      decodes is_code (2 ^ m) t n (λ c h. below_all (2 ^ m) c (λ i l. (code_is m p first roots c h).symbols i))
      (λ c d hc hd lc ld near. code_far c d hc hd (lc ∙ sym ld) (omega arith) (omega arith))

  -- ---- parity

  parity_length : (d : List ℕ) → length (parity d) ≡ roots
  unfolding parity_of
  parity_length d = divided_length (times m p) roots (at (generator_of m p first roots)) (at d) (length d)

  module _ (d : List ℕ) (h : all_below (2 ^ m) d ≡ true) where
    data_lt : (i : ℕ) → at d i < 2 ^ m
    data_lt = below_at (2 ^ m) d (pow_pos m) h

    pub parity_below : all_below (2 ^ m) (parity d) ≡ true
    unfolding parity_of
    parity_below = below_all (2 ^ m) _ (λ i l. divided_lt m p F roots (at (generator_of m p first roots)) (at d) (generator_elements m p F first roots) data_lt (length d) i)

    completed_root : (j : ℕ) → j < roots → value_at_root m p first (d ++ parity d) j ≡ 0
    unfolding value_at_root parity_of
    completed_root j l =
        let e : length (d ++ parity d) ≡ length d + roots = rw (length-append, parity_length d) in
        ap (value m p (power m p (first + j)) (at (d ++ parity d))) e
        ∙ completed_value m p F (power m p (first + j)) (F.power_lt (first + j)) roots (at (generator_of m p first roots)) (generator_elements m p F first roots)
        (generator_monic m p F first roots) (generator_vanishes m p F first roots j l) d data_lt

    parity_made : is_code (d ++ parity d) ≡ true
    parity_made = is_code_lem m p first roots (d ++ parity d) (below_append (2 ^ m) d (parity d) h parity_below) completed_root

  -- others would differ from it in at most as many symbols as there are roots
  parity_only : (d q : List ℕ) → length d + roots < 2 ^ m → length q ≡ roots → is_code (d ++ q) ≡ true → q ≡ parity d
  parity_only d q short long h =
      let o = code_is m p first roots (d ++ q) h in
      let symbols : all_below (2 ^ m) d ≡ true = below_all (2 ^ m) d (λ i l. rw (get_or-append d q 0 i l) at (o.symbols i)) in
      let lq : length (d ++ q) ≡ length d + roots = rw (length-append, long) in
      let lp : length (d ++ parity d) ≡ length d + roots = rw (length-append, parity_length d) in
      let same : d ++ q ≡ d ++ parity d = code_far (d ++ q) (d ++ parity d) h (parity_made d symbols) (lq ∙ sym lp) (omega arith) (omega (arith, apart_append d q (parity d))) in
      sym (drop-append_seam d q) ∙ ap (drop (length d)) same ∙ drop-append_seam d (parity d)

  -- a word of symbols is a code word just where its last symbols are the parity of the others
  module _ (w : List ℕ) (n : ℕ) (long : length w ≡ n + roots) (short : length w < 2 ^ m) (h : all_below (2 ^ m) w ≡ true) where
    abbrev front : List ℕ
    front = take n w

    abbrev back : List ℕ
    back = drop n w

    back_length : length back ≡ roots
    back_length = length-drop n w ∙ omega arith

    pub ends_code : ((j : ℕ) → j < roots → at w (n + j) ≡ at (parity front) j) → is_code w ≡ true
    ends_code same =
        let long_as : length back ≡ length (parity front) = back_length ∙ sym (parity_length front) in
        let e : back ≡ parity front = ext_get_or 0 back (parity front) long_as (λ i l. get_or-drop n w i 0 ∙ same i (omega (arith, back_length))) in
        ap is_code (sym (take-append-drop n w) ∙ ap (λ (r : List ℕ). front ++ r) e) ∙ parity_made front (below_take (2 ^ m) n w h)

    pub code_ends : is_code w ≡ true → (j : ℕ) → j < roots → at w (n + j) ≡ at (parity front) j
    code_ends t j l =
        let few : length front + roots < 2 ^ m = omega (arith, length-take-le n w (omega arith)) in
        let e : back ≡ parity front = parity_only front back few back_length (ap is_code (take-append-drop n w) ∙ t) in
        sym (get_or-drop n w j 0) ∙ ap (λ (r : List ℕ). at r j) e

  pub reed_solomon : ReedSolomon m p first roots
  reed_solomon =
      record {
        generator_length = generator_length m p F first roots;
        generator_monic = generator_monic m p F first roots;
        generator_vanishes = generator_vanishes m p F first roots;
        parity_length = parity_length;
        parity_made = parity_made;
        parity_only = parity_only;
        code_far = code_far;
        distance = distance;
        code_nearest = code_nearest;
      }
