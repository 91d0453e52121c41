-- The elimination finds a polynomial that annihilates the syndromes: reduced by the pivots, one of nine rows has no cell left. Assumes nothing.
use mathlib.Core.Path.{◌≡◌, refl, sym, ap₂, ◌∙◌}
use mathlib.Core.Bool.{Bool, true, false, cond}
use mathlib.Core.List.{List, []}
use Prim.Native.Nat.{ℕ, zero, suc, ◌+◌, ◌-◌, ◌≤◌, ◌<◌}
use native.Mathlib.Decide.{ℕ_discrete}
use native.Mathlib.Nat.{not-suc-le-zero}
use native.Mathlib.Omega.{arith}
use borrow.Author.Tests.{eq-eqb, ne_eqb, lt-ltb, le-ltb}
use lib.Dec.{eqb, ltb}
use lib.ListN.{length, set, replicate, length-set}
use lib.Seq.{get_or-set_same, get_or-set_other}
use Rattle.fields.specs.Elements.{xor}
use Rattle.fields.specs.Lists.{tabulate}
use Rattle.fields.specs.Steps.ByTables.{table_product, table_inverse}
use Rattle.fields.specs.Places.{at, sum_to, differs}
use Rattle.fields.proofs.Lists.{tabulate_at, tabulate_lt}
use Rattle.fields.proofs.Places.Counting.{differs_most, sum_most, sum_one_more}
use Rattle.fields.proofs.Places.Filling.{zeros_at}
use Rattle.decoding.specs.Steps.Decoder.{Tables}
use Rattle.decoding.specs.Steps.Annihilator.{Annihilates, power_row, plus_scaled, Zeros, cell_cleared, cells_of, reduced, FirstNonzero}
use Rattle.decoding.proofs.Algebra.Field.{Ops, Laws, add_self, add-zero, mul_comm, mul_assoc, mul-zero}
use Rattle.decoding.proofs.Algebra.Locators.{applied_to, applied_same, applied_linear, applied_zero, applied_power}
use Rattle.decoding.proofs.Algebra.Tables.{table_ops, table_laws, table_applied}

module _ (es ls t : List ℕ) where
  abbrev O : Ops ℕ
  O = table_ops es ls

  -- the cells are elements, and cells 0 to 7 are what the polynomial in cells 8 to 16 makes of t
  pub record Linked (u : List ℕ) : Type 0 where
    pub inside : (i : ℕ) → at u i < length ls
    pub made : (j : ℕ) → j < 8 → at u j ≡ applied_to O (λ k. at u (8 + k)) 9 (λ k. at t (j + k))

  -- a pivot of cell j: the cells before are zero, and the polynomial's degree is below d. Where cell j is zero too, there is none yet
  pub record Pivot (d j : ℕ) (v : List ℕ) : Type 0 where
    pub linked : Linked v
    pub before : (i : ℕ) → i < j → at v i ≡ 0
    pub above : (i : ℕ) → 8 ≤ i → i + d ≤ 16 → at v i ≡ 0

  -- the pivots after the rows of 1, x, .. x^(d - 1): there are d of them
  pub record Pivots (d : ℕ) (pivots : List (List ℕ)) : Type 0 where
    pub long : length pivots ≡ 8
    pub each : (j : ℕ) → j < 8 → Pivot d j (cells_of pivots j)
    pub count : sum_to 8 (λ j. differs (at (cells_of pivots j) j) 0) ≡ d

  -- the row of a polynomial of degree d, with leading coefficient 1: those of its first n cells that have pivots are zero
  record Reduced (pivots : List (List ℕ)) (d n : ℕ) (u : List ℕ) : Type 0 where
    pub linked : Linked u
    pub leading : at u (16 - d) ≡ 1
    pub above : (i : ℕ) → 8 ≤ i → i + d < 16 → at u i ≡ 0
    pub zeros : (j : ℕ) → j < n → ¬ (at (cells_of pivots j) j ≡ 0) → at u j ≡ 0

  module _ (T : Tables es ls) where
    abbrev K : Laws O (λ a. a < length ls)
    K = table_laws es ls T

    -- ---- u plus c times v
    module _ (u v : List ℕ) (c : ℕ) where
      plus_at : (i : ℕ) → i < 17 → at (plus_scaled es ls u c v) i ≡ xor (at u i) (table_product es ls c (at v i))
      unfolding plus_scaled
      plus_at i l = tabulate_at 17 _ i 0 l

      plus_inside : ((i : ℕ) → at u i < length ls) → (i : ℕ) → at (plus_scaled es ls u c v) i < length ls
      unfolding plus_scaled
      plus_inside h i = tabulate_lt (length ls) 17 _ K.in_zero (λ i. K.in_add _ _ (h i) (K.in_mul _ _)) i

      plus_linked : Linked u → Linked v → Linked (plus_scaled es ls u c v)
      plus_linked hu hv =
          record {
            inside = plus_inside hu.inside;
            made = λ j l.
                plus_at j (omega arith) ∙ ap₂ (λ (x y : ℕ). xor x (table_product es ls c y)) (hu.made j l) (hv.made j l)
                ∙ sym (applied_linear O K c (λ k. at u (8 + k)) (λ k. at v (8 + k)) (λ k. at t (j + k)) 9)
                ∙ applied_same O _ _ (λ k. at t (j + k)) 9 (λ k b. sym (plus_at (8 + k) (omega arith)));
          }

      -- a cell where v is zero stays
      plus_same : (i : ℕ) → i < 17 → at v i ≡ 0 → at (plus_scaled es ls u c v) i ≡ at u i
      plus_same i l z = plus_at i l ∙ cc (z, mul-zero O K c, add-zero O K (at u i))

    -- the cell of the pivot is cleared
    cleared_zero : (u v : List ℕ) (j : ℕ) → j < 17 → Linked u → Linked v → ¬ (at v j ≡ 0) → at (cell_cleared es ls u v j) j ≡ 0
    unfolding cell_cleared
    cleared_zero u v j l hu hv n =
        let a = at u j in
        let b = at v j in
        let i = table_inverse es ls b in
        let one : table_product es ls b i ≡ 1 = K.mul_inv b (hv.inside j) n in
        plus_at u v _ j l ∙ cc (mul_assoc O K a i b, mul_comm O K i b, one, mul_comm O K a 1, K.one-mul a (hu.inside j), add_self O K a)

    -- ---- the row of x^d
    module _ (d : ℕ) (small : d < 9) where
      power_at : (i : ℕ) → i < 8 → at (power_row es ls t d) i ≡ table_product es ls 1 (at t (d + i))
      unfolding power_row
      power_at i l = tabulate_at 17 _ i 0 (omega arith) ∙ rw (lt-ltb i 8 l)

      power_one : (i : ℕ) → 8 ≤ i → i + d ≡ 16 → at (power_row es ls t d) i ≡ 1
      unfolding power_row
      power_one i h e = tabulate_at 17 _ i 0 (omega arith) ∙ rw (le-ltb i 8 h, eq-eqb (i + d) 16 e)

      power_zero : (i : ℕ) → 8 ≤ i → i < 17 → ¬ (i + d ≡ 16) → at (power_row es ls t d) i ≡ 0
      unfolding power_row
      power_zero i h l n = tabulate_at 17 _ i 0 l ∙ rw (le-ltb i 8 h, ne_eqb (i + d) 16 n)

      power_inside : (i : ℕ) → at (power_row es ls t d) i < length ls
      unfolding power_row
      power_inside = tabulate_lt (length ls) 17 _ K.in_zero (λ i. go (ltb i 8) (eqb (i + d) 16) _ (K.in_mul 1 (at t (d + i))))
        where
          go : (a b : Bool) (x : ℕ) → x < length ls → cond a x (cond b 1 0) < length ls
          go true b x h = h
          go false true x h = K.in_one
          go false false x h = K.in_zero

      power_reduced : (pivots : List (List ℕ)) → Reduced pivots d 0 (power_row es ls t d)
      power_reduced pivots =
          record {
            linked = record { inside = power_inside; made = λ j l. power_at j l ∙ made j };
            leading = power_one (16 - d) (omega arith) (omega arith);
            above = λ i h l. power_zero i h (omega arith) (λ e. omega arith);
            zeros = λ j h. absurd (not-suc-le-zero h);
          }
        where
          made : (j : ℕ) → table_product es ls 1 (at t (d + j)) ≡ applied_to O (λ k. at (power_row es ls t d) (8 + k)) 9 (λ k. at t (j + k))
          made j =
              let e : d + j ≡ j + d = omega arith in
              rw e (sym (applied_power O K 9 d small _ (λ k. at t (j + k)) (λ k e. power_one (8 + k) (omega arith) (omega arith))
              (λ k l n. power_zero (8 + k) (omega arith) (omega arith) (λ e. n (omega arith)))))

      -- ---- its reduction
      module _ (pivots : List (List ℕ)) (each : (j : ℕ) → j < 8 → Pivot d j (cells_of pivots j)) where
        cleared_reduced : (n : ℕ) (u : List ℕ) → n < 8 → Reduced pivots d n u → Reduced pivots d (suc n) (cell_cleared es ls u (cells_of pivots n) n)
        unfolding cell_cleared
        cleared_reduced n u l h =
            record {
              linked = plus_linked u v c h.linked p.linked;
              leading = plus_same u v c (16 - d) (omega arith) (p.above (16 - d) (omega arith) (omega arith)) ∙ h.leading;
              above = λ i a b. plus_same u v c i (omega arith) (p.above i a (omega arith)) ∙ h.above i a b;
              zeros = λ j b. go j b (ℕ_discrete j n);
            }
          where
            v : List ℕ
            v = cells_of pivots n

            c : ℕ
            c = table_product es ls (at u n) (table_inverse es ls (at v n))

            p : Pivot d n v
            p = each n l

            go : (j : ℕ) → j < suc n → Dec (j ≡ n) → ¬ (at (cells_of pivots j) j ≡ 0) → at (cell_cleared es ls u v n) j ≡ 0
            go j b (yes e) k = rw e (cleared_zero u v n (omega arith) h.linked p.linked (rw e at k))
            go j b (no e) k = plus_same u v c j (omega arith) (p.before j (omega arith)) ∙ h.zeros j (omega arith) k

        row_reduced : (n : ℕ) → n ≤ 8 → Reduced pivots d n (reduced es ls (power_row es ls t d) pivots n)
        unfolding reduced
        row_reduced zero l = power_reduced pivots
        row_reduced (suc n) l = cleared_reduced n _ l (row_reduced n (omega arith))

    -- ---- the rows one after the other
    abbrev zero_row : List ℕ
    zero_row = replicate 17 0

    cells_zero : (n j i : ℕ) → at (cells_of (replicate n zero_row) j) i ≡ 0
    unfolding cells_of
    cells_zero zero j i = refl
    cells_zero (suc n) zero i = zeros_at 17 i
    cells_zero (suc n) (suc j) i = cells_zero n j i

    pub pivots_start : Pivots 0 (replicate 8 zero_row)
    unfolding sum_to differs cells_of
    pivots_start =
        record {
          long = refl;
          each = λ j l. record { linked = linked j; before = λ i h. cells_zero 8 j i; above = λ i h k. cells_zero 8 j i };
          count = refl;
        }
      where
        linked : (j : ℕ) → Linked (cells_of (replicate 8 zero_row) j)
        linked j =
            record {
              inside = λ i. rw (cells_zero 8 j i) K.in_zero;
              made = λ i l. cells_zero 8 j i ∙ sym (applied_zero O K _ (λ k. at t (i + k)) 9 (λ k b. cells_zero 8 j (8 + k)));
            }

    module _ (d : ℕ) (pivots : List (List ℕ)) (so_far : Pivots d pivots) where
      pub pivots_zeros : d < 9 → (j : ℕ) → j < 8 → Zeros (cells_of pivots j) j (17 - d)
      pivots_zeros small j h = record { before = (so_far.each j h).before; above = λ k lo hi. (so_far.each j h).above k lo (omega arith) }

      -- there is no place for a ninth pivot
      pub pivots_end : (r : List ℕ) → 9 ≤ d → Annihilates es ls t r
      pivots_end r h =
          let few : sum_to (0 + 8) (λ j. differs (at (cells_of pivots j) j) 0) ≤ 8 =
          sum_most 0 8 _ (λ i l. absurd (not-suc-le-zero l)) (λ j. differs_most (at (cells_of pivots j) j) 0) in
          absurd (omega (arith, so_far.count, few))

      module _ (small : d < 9) (p row : List ℕ) (ep : p ≡ power_row es ls t d) (er : row ≡ reduced es ls p pivots 8) (j : ℕ)
          (first : FirstNonzero row j) where
        row_is : Reduced pivots d 8 row
        row_is = rw (er, ep) (row_reduced d small pivots so_far.each 8 (omega arith))

        -- a row with no cell left annihilates
        pub row_annihilates : (r : List ℕ) → j ≡ 8 → r ≡ tabulate 9 (λ k. at row (8 + k)) → Annihilates es ls t r
        row_annihilates r e v = rw v (
            record {
              elements = tabulate_lt (length ls) 9 _ K.in_zero (λ k. row_is.linked.inside (8 + k));
              leading = 8 - d;
              leading_lt = omega arith;
              leading_one = tabulate_at 9 _ (8 - d) 0 (omega arith) ∙ (let e : 8 + (8 - d) ≡ 16 - d = omega arith in rw e row_is.leading);
              equations = λ i l.
                  table_applied es ls _ (λ k. at t (i + k)) 9 ∙ applied_same O _ _ (λ k. at t (i + k)) 9 (λ k b. tabulate_at 9 _ k 0 b)
                  ∙ sym (row_is.linked.made i l) ∙ first.before i (omega arith);
            })

        -- another is the pivot of a cell that had none
        module _ (not_end : j ≡ 8 → ⊥) where
          cell : j < 8
          cell = omega (arith, first.most)

          none : at (cells_of pivots j) j ≡ 0
          none = go (ℕ_discrete (at (cells_of pivots j) j) 0)
            where
              go : Dec (at (cells_of pivots j) j ≡ 0) → at (cells_of pivots j) j ≡ 0
              go (yes e) = e
              go (no n) = absurd (first.here cell (row_is.zeros j cell n))

          set_same : cells_of (set pivots j row) j ≡ row
          unfolding cells_of
          set_same = get_or-set_same pivots j row [] (omega (arith, so_far.long, cell))

          set_other : (i : ℕ) → ¬ (i ≡ j) → cells_of (set pivots j row) i ≡ cells_of pivots i
          unfolding cells_of
          set_other i n = get_or-set_other pivots j i row [] n

          pub pivots_next : Pivots (d + 1) (set pivots j row)
          unfolding differs
          pivots_next =
              record {
                long = length-set pivots j row ∙ so_far.long;
                each = λ i l. go i l (ℕ_discrete i j);
                count = sum_one_more 8 j (λ i. differs (at (cells_of pivots i) i) 0) (λ i. differs (at (cells_of (set pivots j row) i) i) 0) cell
                    (rw (set_same, none, ne_eqb (at row j) 0 (first.here cell)))
                    (λ i l n. rw (set_other i n)) ∙ omega (arith, so_far.count);
              }
            where
              go : (i : ℕ) → i < 8 → Dec (i ≡ j) → Pivot (d + 1) i (cells_of (set pivots j row) i)
              go i l (yes e) =
                  rw (e, set_same) (record { linked = row_is.linked; before = first.before; above = λ k h b. row_is.above k h (omega arith) })
              go i l (no n) =
                  let q = so_far.each i l in
                  rw (set_other i n) (record { linked = q.linked; before = q.before; above = λ k h b. q.above k h (omega arith) })
