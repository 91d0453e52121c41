-- A step of each loop over the rows of the elimination. Assumes nothing.
use mathlib.Core.Path.{◌≡◌, refl, sym, ap, ap₂, ◌∙◌}
use mathlib.Core.Bool.{Bool, true, false, cond}
use mathlib.Core.List.{List, []}
use Prim.Native.Nat.{ℕ, ◌+◌, ◌-◌, ◌≤◌, ◌<◌, zero-le}
use native.Mathlib.Decide.{ℕ_discrete, dec_lt}
use native.Mathlib.Nat.{le_refl, not-suc-le-zero}
use native.Mathlib.Numerals.{add-one}
use native.Mathlib.Omega.{arith}
use borrow.Author.Tests.{eq-eqb, ne_eqb, lt-ltb, le-ltb}
use lib.Bits.{bit_and, and_zero_l}
use lib.Dec.{eqb, ltb}
use lib.ListN.{length, get_or, set, replicate, take, drop, length-set, length-drop}
use Rattle.std.proofs.lemmas.List.{length-take-le}
use lib.Seq.{get_or-take, get_or-drop, get_or-set_same, get_or-set_other}
use Rattle.fields.specs.Elements.{xor}
use Rattle.fields.specs.Steps.ByTables.{place_in, product_at, table_product, table_inverse}
use Rattle.fields.specs.Lists.{tabulate}
use Rattle.fields.specs.Places.{at}
use Rattle.fields.proofs.Lists.{tabulate_is}
use Rattle.fields.proofs.Xor.{xor_zero_r}
use Rattle.fields.proofs.Places.Filling.{zeros_at}
use Rattle.decoding.specs.Steps.Annihilator.{power_row, plus_scaled, PlusPart, Zeros, cell_cleared, cells_of, reduced, FirstNonzero}

-- the first i cells are those of the row of x^d, the others zero
pub record PowerRow (es ls t : List ℕ) (d i : ℕ) (cells : List ℕ) : Type 0 where
  pub long : length cells ≡ 17
  pub within : i ≤ 8
  pub done : (k : ℕ) → k < i → at cells k ≡ table_product es ls 1 (at t (d + k))
  pub rest : (k : ℕ) → i ≤ k → at cells k ≡ 0

module _ (es ls t : List ℕ) (d : ℕ) where
  pub power_start : PowerRow es ls t d 0 (replicate 17 0)
  power_start = record { long = refl; within = zero-le; done = λ k h. absurd (not-suc-le-zero h); rest = λ k h. zeros_at 17 k }

  module _ (i : ℕ) (cells : List ℕ) (so_far : PowerRow es ls t d i cells) where
    pub power_next : (v : ℕ) → i < 8 → v ≡ table_product es ls 1 (get_or t (d + i) 0) → PowerRow es ls t d (i + 1) (set cells i v)
    power_next v l e =
        record {
          long = length-set cells i v ∙ so_far.long;
          within = omega arith;
          done = λ k b. go k b (ℕ_discrete k i);
          rest = λ k b. get_or-set_other cells i k v 0 (λ e. omega arith) ∙ so_far.rest k (omega arith);
        }
      where
        go : (k : ℕ) → k < i + 1 → Dec (k ≡ i) → at (set cells i v) k ≡ table_product es ls 1 (at t (d + k))
        go k b (yes q) = rw q (get_or-set_same cells i v 0 (omega (arith, so_far.long)) ∙ e)
        go k b (no q) = get_or-set_other cells i k v 0 q ∙ so_far.done k (omega arith)

    pub power_end : 8 ≤ i → d < 9 → set cells (17 - 1 - d) 1 ≡ power_row es ls t d
    unfolding power_row
    power_end l small = tabulate_is 17 _ (set cells top 1) 0 (length-set cells top 1 ∙ so_far.long) (λ k b. go k b (dec_lt k 8) (ℕ_discrete (k + d) 16))
      where
        top : ℕ
        top = 17 - 1 - d

        other : (k : ℕ) → ¬ (k ≡ top) → at (set cells top 1) k ≡ at cells k
        other k n = get_or-set_other cells top k 1 0 n

        go : (k : ℕ) → k < 17 → Dec (k < 8) → Dec (k + d ≡ 16) →
            at (set cells top 1) k ≡ cond (ltb k 8) (table_product es ls 1 (at t (d + k))) (cond (eqb (k + d) 16) 1 0)
        go k b (yes c) _ = rw (lt-ltb k 8 c) (other k (λ e. omega arith) ∙ so_far.done k (omega arith))
        go k b (no c) (yes e) =
            let q : top ≡ k = omega arith in
            rw (le-ltb k 8 (omega arith), eq-eqb (k + d) 16 e, q) (get_or-set_same cells k 1 0 (omega (arith, so_far.long)))
        go k b (no c) (no e) = rw (le-ltb k 8 (omega arith), ne_eqb (k + d) 16 e) (other k (λ q. e (omega arith)) ∙ so_far.rest k (omega arith))

-- u plus c times v, cell by cell
module _ (es ls u v : List ℕ) (c from : ℕ) where
  pub plus_none : length u ≡ 17 → PlusPart es ls u c v from from u
  plus_none long = record { long = long; before = λ k h. refl; added = λ k h b. absurd (omega arith); after = λ k h. refl }

  module _ (i : ℕ) (cells : List ℕ) (so_far : PlusPart es ls u c v from i cells) where
    pub plus_next : (p r : ℕ) → from ≤ i → i < 17 → p ≡ table_product es ls c (get_or v i 0) → r ≡ xor (get_or cells i 0) p → PlusPart es ls u c v from (i + 1) (set cells i r)
    plus_next p r lo h ep er =
        record {
          long = length-set cells i r ∙ so_far.long;
          before = λ k b. get_or-set_other cells i k r 0 (λ q. omega arith) ∙ so_far.before k b;
          added = λ k b l. go k b l (ℕ_discrete k i);
          after = λ k b. get_or-set_other cells i k r 0 (λ q. omega arith) ∙ so_far.after k (omega arith);
        }
      where
        go : (k : ℕ) → from ≤ k → k < i + 1 → Dec (k ≡ i) → at (set cells i r) k ≡ xor (at u k) (table_product es ls c (at v k))
        go k b l (yes q) = rw q (get_or-set_same cells i r 0 (omega (arith, so_far.long)) ∙ er ∙ ap₂ xor (so_far.after i (le_refl i)) ep)
        go k b l (no q) = get_or-set_other cells i k r 0 q ∙ so_far.added k b (omega arith)

    pub plus_end : (to : ℕ) → i ≤ to → to ≤ i → PlusPart es ls u c v from to cells
    plus_end to lo hi = let q : i ≡ to = omega arith in rw q at so_far

product_zero : (es ls : List ℕ) (x : ℕ) → table_product es ls x 0 ≡ 0
unfolding table_product product_at place_in
product_zero es ls x = rw (and_zero_l (length ls - 1)) (go (eqb (bit_and x (length ls - 1)) 0))
  where
    go : (b : Bool) → ◌≡◌ {A = ℕ} (cond b 0 0) 0
    go true = refl
    go false = refl

-- v is added in its cells that may be other than zero
pub cleared_is : (es ls u v p r : List ℕ) (j top i c : ℕ) → j < 8 → 8 ≤ top → Zeros v j top → i ≡ table_inverse es ls (get_or v j 0) → c ≡ table_product es ls (get_or u j 0) i →
    PlusPart es ls u c v j 8 p → PlusPart es ls p c v top 17 r → r ≡ cell_cleared es ls u v j
unfolding cell_cleared plus_scaled
cleared_is es ls u v p r j top i c h high Z ei ec low all = rw (← ei, ← ec) (tabulate_is 17 _ r 0 all.long (λ k l. go k l (dec_lt k j) (dec_lt k 8) (dec_lt k top)))
  where
    none : (k : ℕ) → at v k ≡ 0 → at u k ≡ xor (at u k) (table_product es ls c (at v k))
    none k z = sym (ap (λ (y : ℕ). xor (at u k) (table_product es ls c y)) z ∙ ap (xor (at u k)) (product_zero es ls c) ∙ xor_zero_r (at u k))

    go : (k : ℕ) → k < 17 → Dec (k < j) → Dec (k < 8) → Dec (k < top) → at r k ≡ xor (at u k) (table_product es ls c (at v k))
    go k l (yes a) _ _ = all.before k (omega arith) ∙ low.before k a ∙ none k (Z.before k a)
    go k l (no a) (yes b) _ = all.before k (omega arith) ∙ low.added k (omega arith) b
    go k l (no a) (no b) (yes d) = all.before k d ∙ low.after k (omega arith) ∙ none k (Z.above k (omega arith) d)
    go k l (no a) (no b) (no d) = all.added k (omega arith) l ∙ ap (λ (y : ℕ). xor y (table_product es ls c (at v k))) (low.after k (omega arith))

-- a coefficient that is zero changes nothing
zero_product : (es ls : List ℕ) (y : ℕ) → table_product es ls 0 y ≡ 0
unfolding table_product product_at place_in
zero_product es ls y = rw (and_zero_l (length ls - 1))

pub cleared_same : (es ls u v : List ℕ) (j i c : ℕ) → length u ≡ 17 → i ≡ table_inverse es ls (get_or v j 0) → c ≡ table_product es ls (get_or u j 0) i → c ≡ 0 →
    u ≡ cell_cleared es ls u v j
unfolding cell_cleared plus_scaled
cleared_same es ls u v j i c long ei ec z =
    rw (← ei, ← ec, z) (tabulate_is 17 _ u 0 long (λ k l. sym (ap (xor (at u k)) (zero_product es ls (at v k)) ∙ xor_zero_r (at u k))))

pub reduced_none : (es ls u : List ℕ) (pivots : List (List ℕ)) → u ≡ reduced es ls u pivots 0
unfolding reduced
reduced_none es ls u pivots = refl

module _ (es ls u : List ℕ) (pivots : List (List ℕ)) (row : List ℕ) (j : ℕ) (so_far : row ≡ reduced es ls u pivots j) where
  pub reduced_next : (r : List ℕ) → r ≡ cell_cleared es ls row (get_or pivots j []) j → r ≡ reduced es ls u pivots (j + 1)
  unfolding reduced cells_of
  reduced_next r e = rw (add-one, ← so_far) e

  pub reduced_zeros : (top : ℕ) → ((k : ℕ) → k < 8 → Zeros (cells_of pivots k) k top) → j < 8 → Zeros (get_or pivots j []) j top
  unfolding cells_of
  reduced_zeros top each h = each j h

  pub reduced_end : j ≤ 8 → 8 ≤ j → row ≡ reduced es ls u pivots 8
  reduced_end l h = let e : j ≡ 8 = omega arith in rw e at so_far

-- the coefficients of a row
pub row_end : (u : List ℕ) → length u ≡ 17 → take 9 (drop 8 u) ≡ tabulate 9 (λ k. at u (8 + k))
row_end u long =
    tabulate_is 9 _ (take 9 (drop 8 u)) 0 (length-take-le 9 (drop 8 u) (omega (arith, length-drop 8 u, long)))
    (λ k l. get_or-take 9 (drop 8 u) k 0 l ∙ get_or-drop 8 u k 0)

-- how many of the cells 0 to 7 are zero before one is not
pub first_found : (u : List ℕ) (j : ℕ) → length u ≡ 17 → j ≤ length (take 8 u) → ((k : ℕ) → k < j → at (take 8 u) k ≡ 0) →
    (j < length (take 8 u) → at (take 8 u) j ≡ 0 → ⊥) → FirstNonzero u j
first_found u j long most before here =
    record {
      most = omega (arith, size, most);
      before = λ i h. sym (get_or-take 8 u i 0 (omega (arith, size, most))) ∙ before i h;
      here = λ h z. here (omega (arith, size)) (get_or-take 8 u j 0 h ∙ z);
    }
  where
    size : length (take 8 u) ≡ 8
    size = length-take-le 8 u (omega (arith, long))
