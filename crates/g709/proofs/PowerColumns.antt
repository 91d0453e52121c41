-- Sixteen polynomials side by side, evaluated at one power of a after another. Assumes nothing.
use mathlib.Core.Path.{◌≡◌, refl, sym, subst, ap, ap₂, ◌∙◌}
use mathlib.Core.Bool.{true}
use mathlib.Core.List.{List, [], ◌∷◌}
use Prim.Native.Nat.{ℕ, zero, suc, ◌+◌, ◌-◌, ◌*◌, ◌/◌, ◌%◌, ◌≤◌, ◌<◌}
use native.Mathlib.Decide.{dec_lt}
use native.Mathlib.Nat.{le_refl, mul_comm, not-suc-le-zero}
use native.Mathlib.Omega.{arith}
use borrow.Author.Tests.{eqb-true}
use lib.Dec.{eqb, lit<}
use lib.ListN.{length, set}
use Rattle.fields.specs.Elements.{xor, scale, doubled, power, times_c, powers_c, exponents_c}
use Rattle.fields.specs.Places.{at, every, horner}
use Rattle.fields.proofs.Places.Tests.{every_at}
use Rattle.fields.proofs.ByTables.{table_power_lem}
use Rattle.fields.proofs.Instances.{field_c}
use Rattle.fields.proofs.Lists.{tabulate_at, tabulate_is, tabulate_length, tabulate_lt}
use Rattle.fields.proofs.Xor.{xor_zero_l, additive_zero}
use Rattle.decoding.specs.Steps.ByTables.{table_value}
use Rattle.words.proofs.Codes.Horner.{Additive, iter, horner_same}
use Rattle.words.proofs.Codes.TableValues.{value_by_tables}
use Rattle.g709.specs.Steps.Folding.{sum_up_to}
use Rattle.g709.specs.Steps.Registers.{over}
use Rattle.g709.specs.Steps.RootColumns.{polynomial_of, value_at_power, column_values}
use Rattle.g709.specs.Steps.Evaluating.{ColumnBytes, column_scaled, columns_scaled, column_sum}
use Rattle.g709.proofs.Overlays.{over_length, over_in, over_front, over_behind, OverTo, over_next, over_end}
use Rattle.g709.proofs.Folds.{by, by_sum, iter_power, sum_of_first, sum_of_all}

-- ---- a column

abbrev pub new_byte : List ℕ → ℕ → ℕ → ℕ → ℕ
new_byte t n y j = times_c (at t (n + j)) y

pub column_next : (l : List ℕ) (n y j v : ℕ) (o : List ℕ) → OverTo l n 16 (new_byte l n y) j o → j < 16 → n + 16 ≤ length l → v ≡ times_c (at o (n + j)) y →
    OverTo l n 16 (new_byte l n y) (j + 1) (set o (n + j) v)
column_next l n y j v o h lt room e = over_next l n 16 (new_byte l n y) j v o h lt (omega arith) (e ∙ ap (λ (x : ℕ). times_c x y) (h.behind (n + j) (le_refl (n + j))))

pub column_end : (l : List ℕ) (n d y j : ℕ) (o : List ℕ) → n ≡ 16 * d → OverTo l n 16 (new_byte l n y) j o → 16 ≤ j → o ≡ column_scaled l d y
unfolding column_scaled
column_end l n d y j o e h le = over_end l n 16 (new_byte l n y) j o h le ∙ rw e

pub values_end : (l t : List ℕ) (n e j : ℕ) (o : List ℕ) → n ≡ 16 * e → OverTo l n 16 (column_sum t) j o → 16 ≤ j → o ≡ over l (16 * e) 16 (column_sum t)
values_end l t n e j o s h le = over_end l n 16 (column_sum t) j o h le ∙ rw s

-- the eight powers, written out
eight_powers : every 8 (λ d. eqb (at (29 ∷ 128 ∷ 64 ∷ 32 ∷ 16 ∷ 8 ∷ 4 ∷ 2 ∷ []) d) (power 8 285 (8 - d))) ≡ true
unfolding every power doubled scale xor
eight_powers = refl

pub one_column : (t a b : List ℕ) (d : ℕ) → d < 8 → a ≡ columns_scaled t d → b ≡ column_scaled a d (at (29 ∷ 128 ∷ 64 ∷ 32 ∷ 16 ∷ 8 ∷ 4 ∷ 2 ∷ []) d) → b ≡ columns_scaled t (d + 1)
unfolding columns_scaled
one_column t a b d h ea eb =
    let n : suc d ≡ d + 1 = omega arith in
    let y : at (29 ∷ 128 ∷ 64 ∷ 32 ∷ 16 ∷ 8 ∷ 4 ∷ 2 ∷ []) d ≡ power 8 285 (8 - d) = eqb-true _ _ (every_at 8 (λ d. eqb (at (29 ∷ 128 ∷ 64 ∷ 32 ∷ 16 ∷ 8 ∷ 4 ∷ 2 ∷ []) d) (power 8 285 (8 - d))) eight_powers d h) in
    eb ∙ ap₂ (λ (a : List ℕ) (y : ℕ). column_scaled a d y) ea y ∙ ap (columns_scaled t) n

pub no_columns : (t : List ℕ) → t ≡ columns_scaled t 0
unfolding columns_scaled
no_columns t = refl

pub sum_of_columns : (t : List ℕ) (j n s : ℕ) → s ≡ sum_of_first (λ d. at t (j + 16 * d)) n → n ≤ 9 → 9 ≤ n → s ≡ column_sum t j
unfolding column_sum
sum_of_columns t j n s e l h = let q : n ≡ 9 = omega arith in e ∙ ap (sum_of_first (λ d. at t (j + 16 * d))) q ∙ sum_of_all (λ d. at t (j + 16 * d)) 8

module _ (t : List ℕ) (long : length t ≡ 144) where
  scaled_length : (n : ℕ) → length (columns_scaled t n) ≡ 144
  unfolding columns_scaled column_scaled
  scaled_length zero = long
  scaled_length (suc n) = over_length (columns_scaled t n) (16 * n) 16 _ ∙ scaled_length n

  scaled_behind : (n i : ℕ) → 16 * n ≤ i → at (columns_scaled t n) i ≡ at t i
  unfolding columns_scaled column_scaled
  scaled_behind zero i h = refl
  scaled_behind (suc n) i h = over_behind (columns_scaled t n) (16 * n) 16 _ i (omega arith) ∙ scaled_behind n i (omega arith)

  scaled_at : (n d j : ℕ) → n ≤ 8 → d < n → j < 16 → at (columns_scaled t n) (16 * d + j) ≡ times_c (at t (16 * d + j)) (power 8 285 (8 - d))
  unfolding columns_scaled column_scaled
  scaled_at zero d j hn hd hj = absurd (not-suc-le-zero hd)
  scaled_at (suc n) d j hn hd hj = go (λ l. scaled_at n d j (omega arith) l hj) (dec_lt d n)
    where
      go : (d < n → at (columns_scaled t n) (16 * d + j) ≡ times_c (at t (16 * d + j)) (power 8 285 (8 - d))) → Dec (d < n) →
          at (column_scaled (columns_scaled t n) n (power 8 285 (8 - n))) (16 * d + j) ≡ times_c (at t (16 * d + j)) (power 8 285 (8 - d))
      go rest (yes l) = over_front (columns_scaled t n) (16 * n) 16 _ (16 * d + j) (omega arith) ∙ rest l
      go rest (no l) =
          let e : d ≡ n = omega arith in
          rw e
          (over_in (columns_scaled t n) (16 * n) 16 _ j hj (omega (arith, scaled_length n))
          ∙ ap (λ (x : ℕ). times_c x (power 8 285 (8 - n))) (scaled_behind n (16 * n + j) (omega arith)))

-- ---- sums and Horner's rule

sum_below : (g h : ℕ → ℕ) (n : ℕ) → ((m : ℕ) → m ≤ n → g m ≡ h m) → sum_up_to g n ≡ sum_up_to h n
unfolding sum_up_to
sum_below g h zero e = e 0 (omega arith)
sum_below g h (suc n) e = ap₂ xor (sum_below g h n (λ m l. e m (omega arith))) (e (suc n) (le_refl (suc n)))

module _ (f : ℕ → ℕ) (f_sum : Additive f) where
  sum_through : (g : ℕ → ℕ) (n : ℕ) → sum_up_to (λ m. f (g m)) n ≡ f (sum_up_to g n)
  unfolding sum_up_to
  sum_through g zero = refl
  sum_through g (suc n) = ap (λ (x : ℕ). xor x (f (g (suc n)))) (sum_through g n) ∙ sym (f_sum _ _)

  -- the coefficient of x^i is multiplied i times
  horner_terms : (b : ℕ → ℕ) (n : ℕ) → horner f b (suc n) ≡ sum_up_to (λ d. iter f (n - d) (b d)) n
  unfolding sum_up_to horner iter
  horner_terms b zero = ap (λ (x : ℕ). xor x (b 0)) (additive_zero f f_sum) ∙ xor_zero_l (b 0)
  horner_terms b (suc n) =
      let last : suc n - suc n ≡ 0 = omega arith in
      ap (λ (x : ℕ). xor (f x) (b (suc n))) (horner_terms b n)
      ∙ ap₂ xor
      (sym (sum_through (λ d. iter f (n - d) (b d)) n)
      ∙ sum_below (λ d. f (iter f (n - d) (b d))) (λ d. iter f (suc n - d) (b d)) n (λ d l. let e : suc n - d ≡ suc (n - d) = omega arith in sym (ap (λ (i : ℕ). iter f i (b d)) e)))
      (sym (ap (λ (i : ℕ). iter f i (b (suc n))) last))

-- multiplying e times by a^j, and j times by a^e
iter_swap : (j e w : ℕ) → w < 256 → iter (by j) e w ≡ iter (by e) j w
iter_swap j e w h = iter_power j e w h ∙ ap (λ (k : ℕ). times_c w (power 8 285 k)) (mul_comm j e) ∙ sym (iter_power e j w h)

iter_none : (e w : ℕ) → w < 256 → iter (by 0) e w ≡ w
unfolding iter power
iter_none zero w h = refl
iter_none (suc e) w h = ap (by 0) (iter_none e w h) ∙ field_c.times_one w h

-- ---- a value

-- what coefficient d of polynomial k has become after e steps
abbrev term_after : List ℕ → ℕ → ℕ → ℕ → ℕ
term_after t e k d = iter (by (8 - d)) e (at t (16 * d + k))

module _ (t : List ℕ) (bytes : (i : ℕ) → at t i < 256) (k e : ℕ) where
  abbrev P : List ℕ
  P = polynomial_of t k

  P_length : length P ≡ 9
  unfolding polynomial_of
  P_length = tabulate_length 9 (λ d. at t (16 * d + k))

  P_at : (d : ℕ) → d < 9 → at P d ≡ at t (16 * d + k)
  unfolding polynomial_of
  P_at d l = tabulate_at 9 (λ d. at t (16 * d + k)) d 0 l

  P_lt : (d : ℕ) → at P d < 256
  unfolding polynomial_of
  P_lt d = tabulate_lt 256 9 (λ d. at t (16 * d + k)) (lit< tt) (λ d. bytes (16 * d + k)) d

  value_terms : value_at_power t k e ≡ sum_up_to (term_after t e k) 8
  unfolding value_at_power
  value_terms =
      ap (table_value powers_c exponents_c P) (table_power_lem 8 285 field_c e) ∙ value_by_tables 8 285 field_c (power 8 285 e) (field_c.power_lt e) P P_lt
      ∙ ap (horner (by e) (at P)) P_length ∙ horner_same (by e) (at P) (λ d. at t (16 * d + k)) 9 P_at
      ∙ horner_terms (by e) (by_sum e) (λ d. at t (16 * d + k)) 8
      ∙ sum_below (λ d. iter (by e) (8 - d) (at t (16 * d + k))) (term_after t e k) 8 (λ d l. iter_swap e (8 - d) (at t (16 * d + k)) (bytes (16 * d + k)))

-- ---- the loop over the powers

-- e powers are done: the coefficients have been multiplied so often, and the values at those powers are stored
pub record EvaluatedTo (t : List ℕ) (e : ℕ) (terms values : List ℕ) : Type 0 where
  pub bytes : (i : ℕ) → at t i < 256
  pub moved : (d k : ℕ) → d < 9 → k < 16 → at terms (16 * d + k) ≡ term_after t e k d
  pub done : (i k : ℕ) → i < e → k < 16 → at values (16 * i + k) ≡ value_at_power t k i

pub evaluated_start : (t values : List ℕ) → ColumnBytes t → EvaluatedTo t 0 t values
unfolding iter
evaluated_start t values b = record { bytes = b.small; moved = λ d k l h. refl; done = λ i k l h. absurd (not-suc-le-zero l) }

module _ (t terms values next stored : List ℕ) (e : ℕ) (E : EvaluatedTo t e terms values) (long : length terms ≡ 144) (room : length values ≡ 4080) (le : e < 255)
    (es : stored ≡ over values (16 * e) 16 (column_sum terms)) (en : next ≡ columns_scaled terms 8) where
  column_value : (k : ℕ) → k < 16 → column_sum terms k ≡ value_at_power t k e
  unfolding column_sum
  column_value k h =
      sum_below (λ d. at terms (k + 16 * d)) (term_after t e k) 8 (λ d l. let s : k + 16 * d ≡ 16 * d + k = omega arith in ap (at terms) s ∙ E.moved d k (omega arith) h)
      ∙ sym (value_terms t E.bytes k e)

  -- the column of the constant term stays as it is
  moved_last : (k : ℕ) → k < 16 → at (columns_scaled terms 8) (16 * 8 + k) ≡ term_after t (suc e) k 8
  moved_last k h =
      let w : at t (16 * 8 + k) < 256 = E.bytes (16 * 8 + k) in
      scaled_behind terms long 8 (16 * 8 + k) (omega arith) ∙ E.moved 8 k (omega arith) h ∙ iter_none e (at t (16 * 8 + k)) w ∙ sym (iter_none (suc e) (at t (16 * 8 + k)) w)

  moved_next : (d k : ℕ) → d < 9 → k < 16 → at next (16 * d + k) ≡ term_after t (suc e) k d
  unfolding iter
  moved_next d k l h = ap (λ (o : List ℕ). at o (16 * d + k)) en ∙ go (dec_lt d 8)
    where
      go : Dec (d < 8) → at (columns_scaled terms 8) (16 * d + k) ≡ term_after t (suc e) k d
      go (yes m) = scaled_at terms long 8 d k (le_refl 8) m h ∙ ap (by (8 - d)) (E.moved d k l h)
      go (no m) =
          let s : 8 ≡ d = omega arith in
          subst (λ (x : ℕ). at (columns_scaled terms 8) (16 * x + k) ≡ term_after t (suc e) k x) s (moved_last k h)

  done_next : (i k : ℕ) → i < suc e → k < 16 → at stored (16 * i + k) ≡ value_at_power t k i
  done_next i k l h = ap (λ (o : List ℕ). at o (16 * i + k)) es ∙ go (dec_lt i e)
    where
      go : Dec (i < e) → at (over values (16 * e) 16 (column_sum terms)) (16 * i + k) ≡ value_at_power t k i
      go (yes m) = over_front values (16 * e) 16 (column_sum terms) (16 * i + k) (omega arith) ∙ E.done i k m h
      go (no m) = let s : i ≡ e = omega arith in rw s (over_in values (16 * e) 16 (column_sum terms) k h (omega arith) ∙ column_value k h)

  pub evaluated_next : EvaluatedTo t (e + 1) next stored
  evaluated_next =
      let s : suc e ≡ e + 1 = omega arith in
      ap_to s (record { bytes = E.bytes; moved = moved_next; done = done_next })
    where
      ap_to : {m n : ℕ} → m ≡ n → EvaluatedTo t m next stored → EvaluatedTo t n next stored
      ap_to q x = rw q at x

pub evaluated_end : (t terms values : List ℕ) (e : ℕ) → EvaluatedTo t e terms values → length values ≡ 4080 → 255 ≤ e → values ≡ column_values t
unfolding column_values
evaluated_end t terms values e E long le =
    tabulate_is 4080 _ values 0 long (λ i l. let s : i ≡ 16 * (i / 16) + i % 16 = omega arith in ap (at values) s ∙ E.done (i / 16) (i % 16) (omega arith) (omega arith))
