-- Folding by a polynomial over two elements with the generator's roots leaves the remainder as it is. Assumes nothing.
use mathlib.Core.Path.{◌≡◌, refl, sym, ap, ap₂, ◌∙◌}
use mathlib.Core.Bool.{true}
use mathlib.Core.List.{List, ◌++◌}
use Prim.Native.Nat.{ℕ, zero, suc, ◌+◌, ◌*◌, ◌/◌, ◌%◌, ◌≤◌, ◌<◌}
use native.Mathlib.Decide.{dec_lt, ℕ_discrete}
use native.Mathlib.Nat.{mul-suc, mul-zero, zero-add}
use native.Mathlib.Omega.{arith}
use borrow.Author.Tests.{eq-eqb, eqb-true}
use lib.Dec.{eqb, lit<}
use lib.ListN.{length, set, length-set, length-append, get_or-append, get_or-eq_default}
use lib.Seq.{ext_get_or, get_or-append-add, get_or-set_same, get_or-set_other}
use Rattle.fields.specs.Lists.{tabulate}
use Rattle.fields.specs.Elements.{xor, scale, doubled, power, times_c}
use Rattle.fields.proofs.Lists.{tabulate_at, tabulate_length, tabulate_lt}
use Rattle.fields.proofs.Xor.{xor_zero_l, xor_zero_r, xor_self, xor_assoc, xor_cancel, xor_lt, additive_zero}
use Rattle.fields.specs.Places.{at, every, all_below, horner}
use Rattle.fields.proofs.Places.Tests.{every_at, every_true, below_at, below_all, below_append}
use Rattle.decoding.proofs.Algebra.Values.{value_lt}
use Rattle.words.proofs.Codes.Horner.{Additive, iter, iter_sum, horner_same, horner_sum, horner_zero, horner_parts}
use Rattle.words.proofs.Codes.Packing.{divided_same}
use Rattle.words.specs.ReedSolomon.{value_at_root, is_code_word, generator_of, divided, parity_of}
use Rattle.g709.specs.Steps.Folding.{exponents_below, sum_up_to, taps, QuotientTo, Folded}
use Rattle.g709.specs.Steps.Registers.{over, registers, row_divided, row_remainders}
use Rattle.fields.proofs.Instances.{field_c}
use Rattle.words.proofs.Codes.ReedSolomon.{code_is}
use Rattle.g709.proofs.ByteCode.{code_c}
use Rattle.g709.proofs.Overlays.{over_length, over_in, over_behind, over_same, OverTo, over_next}
use Rattle.g709.proofs.Lanes.{lane, lane_past, registers_at, registers_length, same_registers}

-- ---- sums

-- the sum of the first n
unfoldable pub sum_of_first : (ℕ → ℕ) → ℕ → ℕ
sum_of_first g zero = 0
sum_of_first g (suc n) = xor (sum_of_first g n) (g n)

pub sum_of_none : (g : ℕ → ℕ) → 0 ≡ sum_of_first g 0
unfolding sum_of_first
sum_of_none g = refl

pub sum_one_more : (g : ℕ → ℕ) (n s v : ℕ) → s ≡ sum_of_first g n → v ≡ xor s (g n) → v ≡ sum_of_first g (n + 1)
unfolding sum_of_first
sum_one_more g n s v es ev = let m : suc n ≡ n + 1 = omega arith in ev ∙ ap (λ (x : ℕ). xor x (g n)) es ∙ ap (sum_of_first g) m

pub sum_of_all : (g : ℕ → ℕ) (n : ℕ) → sum_of_first g (suc n) ≡ sum_up_to g n
unfolding sum_of_first sum_up_to
sum_of_all g zero = xor_zero_l (g 0)
sum_of_all g (suc n) = ap (λ (x : ℕ). xor x (g (suc n))) (sum_of_all g n)

abbrev pub tap : List ℕ → ℕ → ℕ → ℕ
tap q i n = at q (i + 16 * at exponents_below n)

pub one_more_tap : (q : List ℕ) (i n s e v : ℕ) → s ≡ sum_of_first (tap q i) n → e ≡ at exponents_below n → v ≡ xor s (at q (i + 16 * e)) → v ≡ sum_of_first (tap q i) (n + 1)
one_more_tap q i n s e v es ee ev = sum_one_more (tap q i) n s v es (ev ∙ ap (λ (e : ℕ). xor s (at q (i + 16 * e))) ee)

pub all_taps : (q : List ℕ) (i n s : ℕ) → s ≡ sum_of_first (tap q i) n → n ≤ 21 → 21 ≤ n → s ≡ taps q i
unfolding taps
all_taps q i n s es l h = let e : n ≡ 21 = omega arith in es ∙ ap (sum_of_first (tap q i)) e ∙ sum_of_all (tap q i) 20

pub sum_same : (g h : ℕ → ℕ) (n : ℕ) → ((m : ℕ) → g m ≡ h m) → sum_up_to g n ≡ sum_up_to h n
unfolding sum_up_to
sum_same g h zero e = e 0
sum_same g h (suc n) e = ap₂ xor (sum_same g h n e) (e (suc n))

sum_lt : (g : ℕ → ℕ) (n : ℕ) → ((m : ℕ) → g m < 256) → sum_up_to g n < 256
unfolding sum_up_to
sum_lt g zero h = h 0
sum_lt g (suc n) h = xor_lt 8 _ _ (sum_lt g n h) (h (suc n))

exponent_lt : (n : ℕ) → at exponents_below n < 80
unfolding exponents_below all_below every
exponent_lt n = below_at 80 exponents_below (lit< tt) refl n

pub taps_lt : (q : List ℕ) (i : ℕ) → ((i : ℕ) → at q i < 256) → taps q i < 256
unfolding taps
taps_lt q i h = sum_lt _ 20 (λ n. h _)

-- what is stored at a later place does not matter
pub taps_same : (p q : List ℕ) (i : ℕ) → ((j : ℕ) → j < i + 1296 → at p j ≡ at q j) → taps p i ≡ taps q i
unfolding taps
taps_same p q i h = sum_same _ _ 20 (λ n. h _ (omega (arith, exponent_lt n)))

-- ---- at a root of the generator

abbrev pub by : ℕ → ℕ → ℕ
by j v = times_c v (power 8 285 j)

pub by_sum : (j : ℕ) → Additive (by j)
by_sum j u v = field_c.sum_times u v (power 8 285 j)

pub iter_power : (j e w : ℕ) → w < 256 → iter (by j) e w ≡ times_c w (power 8 285 (j * e))
unfolding iter power
iter_power j zero w h = sym (ap (λ (k : ℕ). times_c w (power 8 285 k)) (mul-zero j) ∙ field_c.times_one w h)
iter_power j (suc e) w h =
    ap (by j) (iter_power j e w h)
    ∙ field_c.times_assoc w (power 8 285 (j * e)) (power 8 285 j) h (field_c.power_lt (j * e)) (field_c.power_lt j)
    ∙ ap (times_c w) (field_c.power_sum_lem (j * e) j ∙ ap (power 8 285) (sym (mul-suc j e)))

sum_times : (w : ℕ) (g : ℕ → ℕ) (n : ℕ) → sum_up_to (λ m. times_c w (g m)) n ≡ times_c w (sum_up_to g n)
unfolding sum_up_to
sum_times w g zero = refl
sum_times w g (suc n) = ap (λ (x : ℕ). xor x (times_c w (g (suc n)))) (sum_times w g n) ∙ sym (field_c.times_sum w _ _)

abbrev polynomial_at : ℕ → ℕ
polynomial_at j = xor (power 8 285 (j * 81)) (sum_up_to (λ n. power 8 285 (j * at exponents_below n)) 20)

-- the sixteen roots
roots_test : every 16 (λ j. eqb (polynomial_at j) 0) ≡ true
unfolding every sum_up_to exponents_below power doubled scale xor
roots_test = refl

vanishes : (j w : ℕ) → j < 16 → w < 256 → xor (iter (by j) 81 w) (sum_up_to (λ n. iter (by j) (at exponents_below n) w) 20) ≡ 0
vanishes j w l h =
    ap₂ xor (iter_power j 81 w h) (sum_same _ _ 20 (λ n. iter_power j (at exponents_below n) w h) ∙ sum_times w (λ n. power 8 285 (j * at exponents_below n)) 20)
    ∙ sym (field_c.times_sum w _ _)
    ∙ ap (times_c w) (eqb-true _ 0 (every_at 16 (λ j. eqb (polynomial_at j) 0) roots_test j l)) ∙ field_c.times_zero w

horner_sums : (j : ℕ) (g : ℕ → ℕ → ℕ) (n k : ℕ) → horner (by j) (λ t. sum_up_to (λ m. g m t) n) k ≡ sum_up_to (λ m. horner (by j) (g m) k) n
unfolding sum_up_to
horner_sums j g zero k = refl
horner_sums j g (suc n) k = horner_sum (by j) (by_sum j) (λ t. sum_up_to (λ m. g m t) n) (g (suc n)) k ∙ ap (λ (x : ℕ). xor x (horner (by j) (g (suc n)) k)) (horner_sums j g n k)

-- zeros
pub none : (j : ℕ) (b : ℕ → ℕ) (n : ℕ) → ((i : ℕ) → i < n → b i ≡ 0) → horner (by j) b n ≡ 0
none j b n h = horner_same (by j) b (λ i. 0) n h ∙ horner_zero (by j) (by_sum j) (λ i. 0) (λ i. refl) n

iter_none : (j n : ℕ) → iter (by j) n 0 ≡ 0
iter_none j n = additive_zero (iter (by j) n) (iter_sum (by j) (by_sum j) n)

-- a shifted word: what is shifted out is zero, and so is what is shifted in
shifted : (j : ℕ) (b : ℕ → ℕ) (e n : ℕ) → ((i : ℕ) → i < e → b i ≡ 0) → ((i : ℕ) → n ≤ i → b i ≡ 0) → horner (by j) (λ t. b (e + t)) n ≡ iter (by j) e (horner (by j) b n)
shifted j b e n front behind =
    let f = by j in
    let left : horner f b (e + n) ≡ horner f (λ t. b (e + t)) n =
    horner_parts f (by_sum j) b e n ∙ ap (λ (x : ℕ). xor (iter f n x) (horner f (λ t. b (e + t)) n)) (none j b e front)
    ∙ ap (λ (x : ℕ). xor x (horner f (λ t. b (e + t)) n)) (iter_none j n) ∙ xor_zero_l _ in
    let right : horner f b (n + e) ≡ iter f e (horner f b n) =
    horner_parts f (by_sum j) b n e ∙ ap (xor (iter f e (horner f b n))) (none j (λ i. b (n + i)) e (λ i l. behind (n + i) (omega arith))) ∙ xor_zero_r _ in
    let comm : n + e ≡ e + n = omega arith in
    sym left ∙ ap (horner f b) (sym comm) ∙ right

-- the value of a word at the root a^j
pub value_by : (w : List ℕ) (j : ℕ) → value_at_root 8 285 0 w j ≡ horner (by j) (at w) (length w)
unfolding value_at_root
value_by w j = ap (λ (i : ℕ). horner (by i) (at w) (length w)) (zero-add j)

-- a word with sixteen symbols after it
pub append_value : (j : ℕ) (a b : List ℕ) → length b ≡ 16 → value_at_root 8 285 0 (a ++ b) j ≡ xor (iter (by j) 16 (horner (by j) (at a) (length a))) (horner (by j) (at b) 16)
append_value j a b long =
    value_by (a ++ b) j ∙ ap (horner (by j) (at (a ++ b))) (length-append a b ∙ ap (λ (n : ℕ). length a + n) long)
    ∙ horner_parts (by j) (by_sum j) (at (a ++ b)) (length a) 16
    ∙ ap₂ (λ (x y : ℕ). xor (iter (by j) 16 x) y) (horner_same (by j) _ _ (length a) (get_or-append a b 0)) (horner_same (by j) _ _ 16 (λ i l. get_or-append-add a b i 0))

pub same_of : (x y : ℕ) → xor x y ≡ 0 → x ≡ y
same_of x y e = sym (xor_zero_r x) ∙ ap (xor x) (sym e) ∙ xor_cancel x y

pub parity_lane : (d : ℕ → ℕ) (k : ℕ) → parity_of 8 285 0 16 (tabulate 239 (λ t. d (16 * t + k))) ≡ lane d 239 k
unfolding parity_of
parity_lane d k =
    ap (divided times_c 16 (at (generator_of 8 285 0 16)) (at (tabulate 239 (λ t. d (16 * t + k))))) (tabulate_length {A = ℕ} 239 (λ t. d (16 * t + k)))
    ∙ divided_same times_c 16 (at (generator_of 8 285 0 16)) (at (tabulate 239 (λ t. d (16 * t + k)))) (λ t. d (16 * t + k)) 239 (λ t l. tabulate_at 239 _ t 0 l)

-- ---- a lane

module _ (d : ℕ → ℕ) (q out : List ℕ) (Q : QuotientTo d 2784 q) (F : Folded d q out) (small : (i : ℕ) → d i < 256) (k : ℕ) (hk : k < 16) where
  abbrev dd : List ℕ
  dd = tabulate 239 (λ t. d (16 * t + k))

  abbrev R : ℕ → ℕ
  R t = at q (16 * t + k)

  abbrev O : ℕ → ℕ
  O s = at out (16 * s + k)

  abbrev S : ℕ → ℕ
  S t = sum_up_to (λ n. R (at exponents_below n + t)) 20

  abbrev H : ℕ → ℕ
  H t = xor (R (81 + t)) (S t)

  dd_at : (t : ℕ) → t < 239 → at dd t ≡ d (16 * t + k)
  dd_at t l = tabulate_at 239 _ t 0 l

  dd_past : (t : ℕ) → 239 ≤ t → at dd t ≡ 0
  dd_past t l = get_or-eq_default dd 0 {n = t} (omega (arith, tabulate_length {A = ℕ} 239 (λ t. d (16 * t + k))))

  tap_lane : (t : ℕ) → taps q (16 * t + k) ≡ S t
  unfolding taps
  tap_lane t = sum_same _ _ 20 (λ n. ap (at q) (omega arith))

  early : (t : ℕ) → t < 174 → xor (at dd t) (H t) ≡ 0
  early t l =
      let e : 16 * (81 + t) + k ≡ 1296 + (16 * t + k) = omega arith in
      let r : R (81 + t) ≡ xor (at dd t) (S t) = ap (at q) e ∙ Q.made (16 * t + k) (omega arith) ∙ ap₂ xor (sym (dd_at t (omega arith))) (tap_lane t) in
      ap (λ (x : ℕ). xor (at dd t) (xor x (S t))) r ∙ ap (xor (at dd t)) (xor_assoc (at dd t) (S t) (S t) ∙ ap (xor (at dd t)) (xor_self (S t)) ∙ xor_zero_r (at dd t)) ∙ xor_self (at dd t)

  out_at : (s : ℕ) → s < 81 → O s ≡ xor (at dd (174 + s)) (S (174 + s))
  out_at s l = go (dec_lt s 65)
    where
      e : 2784 + (16 * s + k) ≡ 16 * (174 + s) + k
      e = omega arith

      go : Dec (s < 65) → O s ≡ xor (at dd (174 + s)) (S (174 + s))
      go (yes h) = F.first (16 * s + k) (omega arith) ∙ ap₂ xor (ap d e ∙ sym (dd_at (174 + s) (omega arith))) (ap (taps q) e ∙ tap_lane (174 + s))
      go (no h) =
          F.last (16 * s + k) (omega arith) (omega arith) ∙ ap (taps q) e ∙ tap_lane (174 + s)
          ∙ sym (ap (λ (x : ℕ). xor x (S (174 + s))) (dd_past (174 + s) (omega arith)) ∙ xor_zero_l _)

  late : (s : ℕ) → s < 81 → xor (at dd (174 + s)) (H (174 + s)) ≡ O s
  late s l =
      ap (λ (x : ℕ). xor (at dd (174 + s)) (xor x (S (174 + s)))) (Q.behind (16 * (81 + (174 + s)) + k) (omega arith))
      ∙ ap (xor (at dd (174 + s))) (xor_zero_l _) ∙ sym (out_at s l)

  R_front : (i : ℕ) → i < 81 → R i ≡ 0
  R_front i l = Q.front (16 * i + k) (omega arith)

  R_behind : (i : ℕ) → 255 ≤ i → R i ≡ 0
  R_behind i l = Q.behind (16 * i + k) (omega arith)

  module _ (j : ℕ) (hj : j < 16) where
    abbrev W : ℕ
    W = horner (by j) R 255

    W_lt : W < 256
    W_lt = value_lt 8 285 field_c (power 8 285 j) R (λ i. Q.bytes (16 * i + k)) 255

    multiple : horner (by j) H 255 ≡ 0
    multiple =
        horner_sum (by j) (by_sum j) (λ t. R (81 + t)) S 255
        ∙ ap₂ xor (shifted j R 81 255 R_front R_behind)
        (horner_sums j (λ n t. R (at exponents_below n + t)) 20 255
        ∙ sum_same _ _ 20 (λ n. shifted j R (at exponents_below n) 255 (λ i l. R_front i (omega (arith, exponent_lt n))) R_behind))
        ∙ vanishes j W hj W_lt

    fold_value : horner (by j) (at dd) 255 ≡ horner (by j) O 81
    fold_value =
        let f = by j in
        let E : ℕ → ℕ = λ t. xor (at dd t) (H t) in
        sym (horner_sum f (by_sum j) (at dd) H 255 ∙ ap (xor (horner f (at dd) 255)) multiple ∙ xor_zero_r _)
        ∙ horner_parts f (by_sum j) E 174 81
        ∙ ap₂ (λ (x y : ℕ). xor (iter f 81 x) y) (none j E 174 early) (horner_same f (λ s. E (174 + s)) O 81 late)
        ∙ ap (λ (x : ℕ). xor x (horner f O 81)) (iter_none j 81) ∙ xor_zero_l _

  -- ---- the remainder of the folded word

  out_lt : (s : ℕ) → s < 81 → O s < 256
  out_lt s l =
      rw (out_at s l) (xor_lt 8 _ _ (tabulate_lt 256 239 _ (lit< tt) (λ t. small (16 * t + k)) (174 + s)) (sum_lt _ 20 (λ n. Q.bytes _)))

  abbrev P : List ℕ
  P = divided times_c 16 (at (generator_of 8 285 0 16)) O 65

  abbrev T : List ℕ
  T = tabulate 16 (λ c. xor (at P c) (O (65 + c)))

  hd_at : (i : ℕ) → i < 65 → at (tabulate 65 O) i ≡ O i
  hd_at i l = tabulate_at 65 O i 0 l

  parity_is : parity_of 8 285 0 16 (tabulate 65 O) ≡ P
  unfolding parity_of
  parity_is =
      ap (divided times_c 16 (at (generator_of 8 285 0 16)) (at (tabulate 65 O))) (tabulate_length 65 O)
      ∙ divided_same times_c 16 (at (generator_of 8 285 0 16)) (at (tabulate 65 O)) O 65 hd_at

  hd_below : all_below 256 (tabulate 65 O) ≡ true
  hd_below = below_all 256 (tabulate 65 O) (λ i l. let m : i < 65 = rw (tabulate_length 65 O) at l in rw (hd_at i m) (out_lt i (omega arith)))

  P_length : length P ≡ 16
  P_length = ap length (sym parity_is) ∙ code_c.parity_length (tabulate 65 O)

  hd_code : is_code_word 8 285 0 16 (tabulate 65 O ++ P) ≡ true
  hd_code = rw (← parity_is) (code_c.parity_made (tabulate 65 O) hd_below)

  T_length : length T ≡ 16
  T_length = tabulate_length 16 _

  module _ (j : ℕ) (hj : j < 16) where
    abbrev X : ℕ
    X = iter (by j) 16 (horner (by j) O 65)

    X_is : X ≡ horner (by j) (at P) 16
    X_is =
        same_of X (horner (by j) (at P) 16)
        (sym (append_value j (tabulate 65 O) P P_length
        ∙ ap (λ (x : ℕ). xor (iter (by j) 16 x) (horner (by j) (at P) 16)) (ap (horner (by j) (at (tabulate 65 O))) (tabulate_length 65 O) ∙ horner_same (by j) _ O 65 hd_at))
        ∙ (code_is 8 285 0 16 (tabulate 65 O ++ P) hd_code).zeros j hj)

    T_value : horner (by j) (at T) 16 ≡ horner (by j) O 81
    T_value =
        horner_same (by j) (at T) (λ c. xor (at P c) (O (65 + c))) 16 (λ c l. tabulate_at 16 _ c 0 l)
        ∙ horner_sum (by j) (by_sum j) (at P) (λ c. O (65 + c)) 16
        ∙ ap (λ (x : ℕ). xor x (horner (by j) (λ c. O (65 + c)) 16)) (sym X_is)
        ∙ sym (horner_parts (by j) (by_sum j) O 65 16)

    word_zero : value_at_root 8 285 0 (dd ++ T) j ≡ 0
    word_zero =
        let f = by j in
        let data_value : horner f (at dd) 255 ≡ iter f 16 (horner f (at dd) 239) =
        horner_parts f (by_sum j) (at dd) 239 16 ∙ ap (xor (iter f 16 (horner f (at dd) 239))) (none j (λ i. at dd (239 + i)) 16 (λ i l. dd_past (239 + i) (omega arith))) ∙ xor_zero_r _ in
        append_value j dd T T_length
        ∙ ap₂ xor (ap (λ (n : ℕ). iter f 16 (horner f (at dd) n)) (tabulate_length {A = ℕ} 239 (λ t. d (16 * t + k))) ∙ sym data_value ∙ fold_value j hj) T_value
        ∙ xor_self (horner f O 81)

  P_lt : (i : ℕ) → at P i < 256
  P_lt i = rw P_append ((code_is 8 285 0 16 (tabulate 65 O ++ P) hd_code).symbols (length (tabulate 65 O) + i))
    where
      P_append : at P i ≡ at (tabulate 65 O ++ P) (length (tabulate 65 O) + i)
      P_append = sym (get_or-append-add (tabulate 65 O) P i 0)

  T_below : all_below 256 T ≡ true
  T_below =
      below_all 256 T (λ i l. let m : i < 16 = rw T_length at l in rw (tabulate_at 16 (λ c. xor (at P c) (O (65 + c))) i 0 m) (xor_lt 8 _ _ (P_lt i) (out_lt (65 + i) (omega arith))))

  dd_below : all_below 256 dd ≡ true
  dd_below = below_all 256 dd (λ i l. tabulate_lt 256 239 _ (lit< tt) (λ t. small (16 * t + k)) i)

  word_code : is_code_word 8 285 0 16 (dd ++ T) ≡ true
  unfolding is_code_word
  word_code = rw (below_append 256 dd T dd_below T_below) (every_true 16 _ (λ j l. eq-eqb (value_at_root 8 285 0 (dd ++ T) j) 0 (word_zero j l)))

  pub lane_folded : T ≡ divided times_c 16 (at (generator_of 8 285 0 16)) (λ t. d (16 * t + k)) 239
  lane_folded = code_c.parity_only dd T (omega (arith, tabulate_length {A = ℕ} 239 (λ t. d (16 * t + k)))) T_length word_code ∙ parity_lane d k

-- ---- the loops

pub quotient_start : (d : ℕ → ℕ) (q : List ℕ) → q ≡ tabulate 5376 (λ i. 0) → QuotientTo d 0 q
quotient_start d q e =
    let zero : (i : ℕ) → at q i ≡ 0 = λ i. ap (λ (q : List ℕ). at q i) e ∙ zeros i in
    record { front = λ i l. zero i; made = λ i l. absurd (omega arith); behind = λ i l. zero i; bytes = λ i. omega (arith, zero i) }
  where
    zeros : (i : ℕ) → at (tabulate 5376 (λ i. 0)) i ≡ 0
    zeros i = let h : at (tabulate 5376 (λ i. 0)) i < 1 = tabulate_lt 1 5376 (λ i. 0) (lit< tt) (λ i. lit< tt) i in omega arith

pub quotient_next : (d : ℕ → ℕ) (q : List ℕ) (i t v : ℕ) → QuotientTo d i q → i < 2784 → length q ≡ 5376 → d i < 256 → t ≡ taps q i → v ≡ xor (d i) t → QuotientTo d (i + 1) (set q (1296 + i) v)
quotient_next d q i t v h l long small et ev =
    record {
      front = λ m b. other m (λ e. omega arith) ∙ h.front m b;
      made = λ m b. go m b (ℕ_discrete m i);
      behind = λ m b. other m (λ e. omega arith) ∙ h.behind m (omega arith);
      bytes = λ m. size m (ℕ_discrete m (1296 + i));
    }
  where
    p : List ℕ
    p = set q (1296 + i) v

    other : (m : ℕ) → (m ≡ 1296 + i → ⊥) → at (set q (1296 + i) v) m ≡ at q m
    other m ne = get_or-set_other q (1296 + i) m v 0 ne

    same : at (set q (1296 + i) v) (1296 + i) ≡ v
    same = get_or-set_same q (1296 + i) v 0 (omega arith)

    before : (m : ℕ) → m ≤ i → taps (set q (1296 + i) v) m ≡ taps q m
    before m b = taps_same (set q (1296 + i) v) q m (λ j k. other j (λ e. omega arith))

    go : (m : ℕ) → m < i + 1 → Dec (m ≡ i) → at (set q (1296 + i) v) (1296 + m) ≡ xor (d m) (taps (set q (1296 + i) v) m)
    go m b (yes e) = rw e (same ∙ ev ∙ ap (xor (d i)) (et ∙ sym (before i (omega arith))))
    go m b (no ne) = other (1296 + m) (λ e. ne (omega arith)) ∙ h.made m (omega (arith, ne)) ∙ ap (xor (d m)) (sym (before m (omega arith)))

    size : (m : ℕ) → Dec (m ≡ 1296 + i) → at (set q (1296 + i) v) m < 256
    size m (yes e) = rw (e, same, ev, et) (xor_lt 8 _ _ small (taps_lt q i h.bytes))
    size m (no ne) = rw (other m ne) (h.bytes m)

-- the first n of the columns that are left: 65 of the data, and sixteen of zeros
pub record FoldedTo (d : ℕ → ℕ) (q : List ℕ) (n : ℕ) (out : List ℕ) : Type 0 where
  pub long : length out ≡ 1296
  pub first : (i : ℕ) → i < n → i < 1040 → at out i ≡ xor (d (2784 + i)) (taps q (2784 + i))
  pub last : (i : ℕ) → i < n → 1040 ≤ i → at out i ≡ taps q (2784 + i)

pub folded_none : (d : ℕ → ℕ) (q out : List ℕ) → length out ≡ 1296 → FoldedTo d q 0 out
folded_none d q out long = record { long = long; first = λ i l m. absurd (omega arith); last = λ i l m. absurd (omega arith) }

module _ (d : ℕ → ℕ) (q out : List ℕ) (n t v : ℕ) (F : FoldedTo d q n out) (room : n < 1296) (et : t ≡ taps q (2784 + n)) where
  here : at (set out n v) n ≡ v
  here = get_or-set_same out n v 0 (omega (arith, F.long))

  there : (i : ℕ) → (i ≡ n → ⊥) → at (set out n v) i ≡ at out i
  there i ne = get_or-set_other out n i v 0 ne

  pub folded_first : n < 1040 → v ≡ xor (d (2784 + n)) t → FoldedTo d q (n + 1) (set out n v)
  folded_first l ev = record { long = length-set out n v ∙ F.long; first = λ i h m. go i h m (ℕ_discrete i n); last = λ i h m. absurd (omega arith) }
    where
      go : (i : ℕ) → i < n + 1 → i < 1040 → Dec (i ≡ n) → at (set out n v) i ≡ xor (d (2784 + i)) (taps q (2784 + i))
      go i h m (yes e) = rw e (here ∙ ev ∙ ap (xor (d (2784 + n))) et)
      go i h m (no ne) = there i ne ∙ F.first i (omega (arith, ne)) m

  pub folded_last : 1040 ≤ n → v ≡ t → FoldedTo d q (n + 1) (set out n v)
  folded_last l ev = record { long = length-set out n v ∙ F.long; first = λ i h m. there i (λ e. omega arith) ∙ F.first i (omega arith) m; last = λ i h m. go i h m (ℕ_discrete i n) }
    where
      go : (i : ℕ) → i < n + 1 → 1040 ≤ i → Dec (i ≡ n) → at (set out n v) i ≡ taps q (2784 + i)
      go i h m (yes e) = rw e (here ∙ ev ∙ et)
      go i h m (no ne) = there i ne ∙ F.last i (omega (arith, ne)) m

pub quotient_end : (d : ℕ → ℕ) (q : List ℕ) (i : ℕ) → QuotientTo d i q → i ≤ 2784 → 2784 ≤ i → QuotientTo d 2784 q
quotient_end d q i h l g = let e : i ≡ 2784 = omega arith in rw e at h

pub add_next : (l p : List ℕ) (k v : ℕ) (o : List ℕ) → OverTo l 0 256 (λ k. xor (at l k) (at p k)) k o → k < 256 → length l ≡ 272 → v ≡ xor (at o k) (at p k) →
    OverTo l 0 256 (λ k. xor (at l k) (at p k)) (k + 1) (set o k v)
add_next l p k v o h lt long ev =
    let e : 0 + k ≡ k = omega arith in
    rw e at (over_next l 0 256 (λ k. xor (at l k) (at p k)) k v o h lt (omega arith) (ev ∙ ap (λ (x : ℕ). xor x (at p k)) (h.behind k (omega arith))))

pub folded_all : (d : ℕ → ℕ) (q out : List ℕ) (n : ℕ) → 1296 ≤ n → FoldedTo d q n out → Folded d q out
folded_all d q out n l F = record { first = λ i m. F.first i (omega arith) m; last = λ i h m. F.last i (omega arith) h }

-- ---- all lanes

module _ (d : ℕ → ℕ) (q out r p o : List ℕ) (Q : QuotientTo d 2784 q) (F : Folded d q out) (er : r ≡ row_divided out 0 65) (last : (i : ℕ) → i < 256 → at p i ≡ at out (1040 + i))
    (e : o ≡ over r 0 256 (λ i. xor (at r i) (at p i))) (small : (i : ℕ) → d i < 256) where
  r_at : (c k : ℕ) → c < 17 → k < 16 → at r (16 * c + k) ≡ at (divided times_c 16 (at (generator_of 8 285 0 16)) (λ t. at out (16 * t + k)) 65) c
  unfolding row_divided
  r_at c k hc hk =
      ap (λ (l : List ℕ). at l (16 * c + k)) er ∙ registers_at (λ i. at out (0 + i)) 65 c k hc hk
      ∙ ap (λ (l : List ℕ). at l c) (divided_same times_c 16 (at (generator_of 8 285 0 16)) (λ t. at out (0 + (16 * t + k))) (λ t. at out (16 * t + k)) 65 (λ t l. ap (at out) (omega arith)))

  r_length : length r ≡ 272
  unfolding row_divided
  r_length = ap length er ∙ registers_length (λ i. at out (0 + i)) 65

  o_length : length o ≡ 272
  o_length = ap length e ∙ over_length r 0 256 (λ i. xor (at r i) (at p i)) ∙ r_length

  in_parity : (c k : ℕ) → c < 16 → k < 16 → at o (16 * c + k) ≡ at (lane d 239 k) c
  in_parity c k hc hk =
      let zero : 16 * c + k ≡ 0 + (16 * c + k) = omega arith in
      let up : 1040 + (16 * c + k) ≡ 16 * (65 + c) + k = omega arith in
      ap (λ (l : List ℕ). at l (16 * c + k)) e ∙ ap (at (over r 0 256 (λ i. xor (at r i) (at p i)))) zero
      ∙ over_in r 0 256 (λ i. xor (at r i) (at p i)) (16 * c + k) (omega arith) (omega (arith, r_length))
      ∙ ap₂ xor (r_at c k (omega arith) hk) (last (16 * c + k) (omega arith) ∙ ap (at out) up)
      ∙ sym (tabulate_at 16 (λ c. xor (at (divided times_c 16 (at (generator_of 8 285 0 16)) (λ t. at out (16 * t + k)) 65) c) (at out (16 * (65 + c) + k))) c 0 hc)
      ∙ ap (λ (l : List ℕ). at l c) (lane_folded d q out Q F small k hk)

  past_parity : (k : ℕ) → k < 16 → at o (16 * 16 + k) ≡ 0
  past_parity k hk =
      ap (λ (l : List ℕ). at l (16 * 16 + k)) e ∙ over_behind r 0 256 (λ i. xor (at r i) (at p i)) (16 * 16 + k) (omega arith) ∙ r_at 16 k (omega arith) hk ∙ lane_past (at out) 65 k

  at_all : (c k : ℕ) → c < 17 → k < 16 → at o (16 * c + k) ≡ at (registers d 239) (16 * c + k)
  at_all c k hc hk = go (dec_lt c 16)
    where
      go : Dec (c < 16) → at o (16 * c + k) ≡ at (registers d 239) (16 * c + k)
      go (yes h) = in_parity c k h hk ∙ sym (registers_at d 239 c k hc hk)
      go (no h) =
          let s : c ≡ 16 = omega arith in
          rw s (past_parity k hk ∙ sym (registers_at d 239 16 k (omega arith) hk ∙ lane_past d 239 k))

  pub row_folded : o ≡ registers d 239
  row_folded =
      ext_get_or 0 o (registers d 239) (o_length ∙ sym (registers_length d 239))
      (λ i l.
      let m : i < 272 = omega (arith, o_length) in
      let s : i ≡ 16 * (i / 16) + i % 16 = omega arith in
      ap (at o) s ∙ at_all (i / 16) (i % 16) (omega arith) (omega arith) ∙ ap (at (registers d 239)) (sym s))

pub remainders_are : (row a r p o : List ℕ) → ((i : ℕ) → i < 3824 → at a i ≡ at row i) → r ≡ registers (at a) 239 → ((i : ℕ) → i < 256 → at p i ≡ at row (3824 + i)) →
    o ≡ over r 0 256 (λ i. xor (at r i) (at p i)) → o ≡ row_remainders row 0
unfolding row_remainders row_divided
remainders_are row a r p o front er parity eo =
    let s : r ≡ registers (λ i. at row (0 + i)) 239 = er ∙ same_registers (at a) (λ i. at row (0 + i)) (λ i l. front i l ∙ ap (at row) (omega arith)) in
    eo ∙ over_same r 0 256 _ _ (λ i l. ap (xor (at r i)) (parity i l ∙ ap (at row) (omega arith))) ∙ ap (λ (r : List ℕ). over r 0 256 (λ i. xor (at r i) (at row (0 + 3824 + i)))) s

pub part_remainders : (part b : List ℕ) (from : ℕ) → ((i : ℕ) → i < 4080 → at part i ≡ at b (from + i)) → row_remainders part 0 ≡ row_remainders b from
unfolding row_remainders row_divided
part_remainders part b from h =
    let s : registers (λ i. at part (0 + i)) 239 ≡ registers (λ i. at b (from + i)) 239 =
    same_registers (λ i. at part (0 + i)) (λ i. at b (from + i)) (λ i l. ap (at part) (zero-add i) ∙ h i (omega arith)) in
    over_same (registers (λ i. at part (0 + i)) 239) 0 256 _ _ (λ i l. ap (xor (at (registers (λ i. at part (0 + i)) 239) i)) (ap (at part) (omega arith) ∙ h (3824 + i) (omega arith) ∙ ap (at b) (omega arith)))
    ∙ ap (λ (r : List ℕ). over r 0 256 (λ i. xor (at r i) (at b (from + 3824 + i)))) s
