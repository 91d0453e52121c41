-- The search for the roots by tables of powers: a law for each way through a function and for each step of a loop. Assumes nothing.
use mathlib.Core.Path.{◌≡◌, refl, sym, ap, ap₂, ◌∙◌}
use mathlib.Core.Bool.{Bool, true, false, ◌||◌, cond}
use mathlib.Core.List.{List, ◌++◌}
use Prim.Native.Nat.{ℕ, zero, suc, ◌+◌, ◌-◌, ◌*◌, ◌/◌, ◌%◌, ◌^◌, ◌≤◌, ◌<◌, zero-le}
use native.Mathlib.Decide.{ℕ_discrete, dec_lt}
use native.Mathlib.Nat.{add-mul-mod_self_left, le_refl, mod-add-mod, mod-lt, mul-suc, mul-zero, not-suc-le-zero}
use native.Mathlib.Numerals.{add-one}
use native.Mathlib.Omega.{arith}
use borrow.Author.Tests.{eq-eqb, ltb-true, ne_eqb, lt-ltb, le-ltb}
use lib.Bits.{bit_and, and_mask}
use lib.Dec.{eqb, ltb, lit<, lit≤}
use lib.ListN.{length, get_or, set, take, drop, replicate, length-replicate, get_or-append, length-append, length-drop, length-set}
use Rattle.std.proofs.lemmas.List.{length-take-le, get_or-append_right, map-set}
use Rattle.std.proofs.Math.ListN.{get_or-map}
use borrow.Rule.Slice.PartMut.{put_mid, post_of}
use lib.Seq.{ext_get_or, get_or-take, get_or-drop, get_or-set_same, get_or-set_other}
use mir.Syntax.{w64}
use mir.Val.{Fits}
use Rattle.fields.specs.Elements.{xor, powers_b}
use Rattle.fields.specs.Steps.ByTables.{table_power, wrapped}
use Rattle.fields.specs.Lists.{tabulate}
use Rattle.fields.specs.Places.{at, every, all_below}
use Rattle.fields.proofs.Lists.{tabulate_at, tabulate_length, tabulate_lt}
use Rattle.fields.proofs.Instances.{field_b}
use Rattle.fields.proofs.Ways.{past, wrapped_modulo}
use Rattle.fields.proofs.Places.Tests.{below_at}
use Rattle.fields.proofs.Places.Filling.{zeros_at, Filled, filled_start, filled_next, filled_end}
use Rattle.decoding.specs.declared.power_tables.TermTable.{TermTable}
use Rattle.decoding.specs.declared.root_search.Places.{Places}
use Rattle.decoding.specs.Steps.RootSearch.{less_modulo, kept}
use Rattle.decoding.specs.Steps.PowerTables.{PowerTables, TableFilled, near, far, block_sum, stored, with_sums, reciprocals, table_base, table_start, table_bases, table_starts, bases_of, starts_of, table_position, four_at, eight_at, AllInside, sum_from, tables_sum, kept_to}
use Rattle.decoding.proofs.Algebra.Tables.{powers_length}
use Rattle.decoding.proofs.Decoding.TableSums.{near_least, far_more, table_sum}

-- ---- the tables

-- the first table is zero, and no other is there
module _ (n : ℕ) (tables zeros : List ℕ) (whole : n ≡ 2087) (size : length tables ≡ 18784) (e : zeros ≡ replicate n 0) where
  zeros_long : length zeros ≡ 2087
  zeros_long = rw e (length-replicate n 0 ∙ whole)

  abbrev cleared : List ℕ
  cleared = put_mid 0 n tables zeros

  cleared_long : length cleared ≡ 18784
  cleared_long = length-append zeros (post_of 0 n tables) ∙ omega (arith, zeros_long, length-drop n tables, whole, size)

  pub emptied : (es : List ℕ) → PowerTables es (set cleared 18783 0)
  emptied es =
      let none : at (set cleared 18783 0) 18783 ≡ 0 = get_or-set_same cleared 18783 0 0 (omega (arith, cleared_long)) in
      record {
        long = length-set cleared 18783 0 ∙ cleared_long;
        zeros = λ i l. get_or-set_other cleared 18783 i 0 0 (λ q. omega arith) ∙ get_or-append zeros (post_of 0 n tables) 0 i (omega (arith, zeros_long))
            ∙ ap (λ (l : List ℕ). get_or l i 0) e ∙ zeros_at n i;
        few = rw none zero-le;
        powers = λ d i pos l. absurd (omega (arith, none));
      }

-- the first m entries of table d are there, and k is the exponent of the next
pub record TableStarted (es before : List ℕ) (d k m : ℕ) (tables : List ℕ) : Type 0 where
  pub within : m ≤ 167
  pub filled : TableFilled es before d m tables
  pub exponent : k ≡ (2047 - d) * m % 2047
  pub inside : k < 2047

less_is : (e d : ℕ) → e < 2047 → d < 2047 → less_modulo 2047 e d ≡ (e + (2047 - d)) % 2047
unfolding less_modulo
less_is e d he hd = go (dec_lt e d)
  where
    go : Dec (e < d) → cond (ltb e d) (e + (2047 - d)) (e - d) ≡ (e + (2047 - d)) % 2047
    go (yes h) = rw (lt-ltb e d h) (omega arith)
    go (no h) = rw (le-ltb e d (omega arith)) (omega arith)

module _ (es before : List ℕ) (d : ℕ) where
  pub started_none : TableStarted es before d 0 0 before
  started_none =
      record {
        within = zero-le;
        filled = record { long = refl; other = λ i h. refl; done = λ l h. absurd (not-suc-le-zero h) };
        exponent = sym (ap (λ (x : ℕ). x % 2047) (mul-zero (2047 - d)));
        inside = lit< tt;
      }

  module _ (k m : ℕ) (tables : List ℕ) (so_far : TableStarted es before d k m tables) (order : length es ≡ 2047) (size : length before ≡ 18784) (most : d ≤ 8) where
    pub started_next : (r : ℕ) → m < 167 → r ≡ less_modulo 2047 k d → TableStarted es before d r (m + 1) (set tables (2087 * d + m) (get_or es k 0))
    unfolding table_power
    started_next r h er =
        record {
          within = omega arith;
          filled =
              record {
                long = length-set tables (2087 * d + m) _ ∙ so_far.filled.long;
                other = λ i l. get_or-set_other tables (2087 * d + m) i _ 0 (λ q. omega arith) ∙ so_far.filled.other i l;
                done = λ l b. go l b (ℕ_discrete l m);
              };
          exponent = rw (add-one, mul-suc (2047 - d) m)
              (step ∙ ap (λ (x : ℕ). (x + (2047 - d)) % 2047) so_far.exponent ∙ mod-add-mod ((2047 - d) * m) 2047 (2047 - d));
          inside = rw step (mod-lt (k + (2047 - d)) (lit< tt));
        }
      where
        step : r ≡ (k + (2047 - d)) % 2047
        step = er ∙ less_is k d so_far.inside (omega arith)

        go : (l : ℕ) → l < m + 1 → Dec (l ≡ m) → at (set tables (2087 * d + m) (get_or es k 0)) (2087 * d + l) ≡ get_or es ((2047 - d) * l % length es) 0
        go l b (yes q) = rw (q, order, ← so_far.exponent) (get_or-set_same tables (2087 * d + m) _ 0 (omega (arith, so_far.filled.long)))
        go l b (no q) = get_or-set_other tables (2087 * d + m) (2087 * d + l) _ 0 (λ e. q (omega arith)) ∙ so_far.filled.done l (omega arith)

    pub started_end : 167 ≤ m → TableFilled es before d 167 tables
    started_end h = let q : m ≡ 167 = omega (arith, so_far.within) in rw q at so_far.filled

-- ---- the other entries of a table, block by block

pub powers_long : (es : List ℕ) → es ≡ powers_b → length es ≡ 2047
powers_long es exp = rw (exp, powers_length 11 2053 field_b)

pub near_most : (d : ℕ) → at near d ≤ 167
unfolding near all_below every
near_most d = let h : at near d < 168 = below_at 168 near (lit< tt) refl d in omega arith

pub far_most : (d : ℕ) → at far d ≤ 167
unfolding far all_below every
far_most d = let h : at far d < 168 = below_at 168 far (lit< tt) refl d in omega arith

pub sums_next : (tables sums : List ℕ) (a b l r : ℕ) → Filled 40 (block_sum tables a b) l sums → l < 40 → r ≡ xor (get_or tables (a + l) 0) (get_or tables (b + l) 0) →
    Filled 40 (block_sum tables a b) (l + 1) (set sums l r)
unfolding block_sum
sums_next tables sums a b l r so_far h e = filled_next so_far h e

module _ (tables : List ℕ) (s : ℕ) (block : List ℕ) where
  stored_long : (k : ℕ) → length (stored tables s block k) ≡ length tables
  unfolding stored
  stored_long zero = refl
  stored_long (suc k) = length-set (stored tables s block k) (s + k) _ ∙ stored_long k

  stored_before : (k i : ℕ) → i < s → at (stored tables s block k) i ≡ at tables i
  unfolding stored
  stored_before zero i h = refl
  stored_before (suc k) i h = get_or-set_other (stored tables s block k) (s + k) i _ 0 (λ e. omega arith) ∙ stored_before k i h

  stored_at : (k l : ℕ) → s + k ≤ length tables → l < k → at (stored tables s block k) (s + l) ≡ at block l
  unfolding stored
  stored_at zero l fits h = absurd (not-suc-le-zero h)
  stored_at (suc k) l fits h = go (ℕ_discrete l k) (stored_at k l (omega arith))
    where
      go : Dec (l ≡ k) → (l < k → at (stored tables s block k) (s + l) ≡ at block l) → at (set (stored tables s block k) (s + k) (at block k)) (s + l) ≡ at block l
      go (yes e) before = rw e (get_or-set_same (stored tables s block k) (s + k) _ 0 (omega (arith, stored_long k)))
      go (no e) before = get_or-set_other (stored tables s block k) (s + k) (s + l) _ 0 (λ q. e (omega arith)) ∙ before (omega arith)

  stored_after : (k i : ℕ) → s + k ≤ i → at (stored tables s block k) i ≡ at tables i
  unfolding stored
  stored_after zero i h = refl
  stored_after (suc k) i h = get_or-set_other (stored tables s block k) (s + k) i _ 0 (λ e. omega arith) ∙ stored_after k i (omega arith)

  -- one write of the whole block
  put_stored : (k : ℕ) → k ≡ 40 → s + 40 ≤ length tables → length block ≡ 40 → put_mid s k tables block ≡ stored tables s block 40
  put_stored k e fits long = rw e (ext_get_or 0 (put_mid s 40 tables block) (stored tables s block 40) size (λ i l. go i (dec_lt i s) (dec_lt i (s + 40))))
    where
      front : length (take s tables) ≡ s
      front = length-take-le s tables (omega arith)

      size : length (put_mid s 40 tables block) ≡ length (stored tables s block 40)
      size =
          omega (
            arith,
            length-append (take s tables) (block ++ post_of s 40 tables),
            length-append block (post_of s 40 tables),
            front,
            length-drop 40 (drop s tables),
            length-drop s tables,
            stored_long 40,
            long,
          )

      go : (i : ℕ) → Dec (i < s) → Dec (i < s + 40) → at (put_mid s 40 tables block) i ≡ at (stored tables s block 40) i
      go i (yes a) _ =
          get_or-append (take s tables) (block ++ post_of s 40 tables) 0 i (omega (arith, front)) ∙ get_or-take s tables i 0 a ∙ sym (stored_before 40 i a)
      go i (no a) (yes b) =
          let e : s + (i - s) ≡ i = omega arith in
          get_or-append_right (take s tables) (block ++ post_of s 40 tables) s i 0 front (omega arith) ∙ get_or-append block (post_of s 40 tables) 0 (i - s) (omega (arith, long))
          ∙ sym (rw e at (stored_at 40 (i - s) fits (omega arith)))
      go i (no a) (no b) =
          let e : s + (40 + (i - s - 40)) ≡ i = omega arith in
          get_or-append_right (take s tables) (block ++ post_of s 40 tables) s i 0 front (omega arith)
          ∙ get_or-append_right block (post_of s 40 tables) 40 (i - s) 0 long (omega arith) ∙ get_or-drop 40 (drop s tables) (i - s - 40) 0
          ∙ get_or-drop s tables (40 + (i - s - 40)) 0 ∙ ap (at tables) e ∙ sym (stored_after 40 i (omega arith))

pub sums_stored : (tables sums after : List ℕ) (s k p q : ℕ) → sums ≡ tabulate 40 (block_sum tables (s - p) (s - q)) → after ≡ sums → k ≡ 40 → s + 40 ≤ length tables →
    put_mid s k tables after ≡ with_sums tables s p q
unfolding with_sums
sums_stored tables sums after s k p q es ea ek fits = rw (ea, es) (put_stored tables s _ k ek fits (tabulate_length 40 _))

-- the first m entries of table d are there, and whole blocks are left
pub record TableBlocks (before : List ℕ) (d m : ℕ) (tables : List ℕ) : Type 0 where
  pub least : 167 ≤ m
  pub within : m ≤ 2087
  pub whole : m % 40 ≡ 7
  pub filled : TableFilled powers_b before d m tables

module _ (before : List ℕ) (d m : ℕ) (tables : List ℕ) (so_far : TableBlocks before d m tables) where
  pub blocks_next : (p q : ℕ) (after : List ℕ) → length before ≡ 18784 → 0 < d → d ≤ 8 → m < 2087 → p ≡ at near d → q ≡ at far d →
      after ≡ with_sums tables (2087 * d + m) p q → TableBlocks before d (m + 40) after
  unfolding with_sums block_sum
  blocks_next p q after size pos most h ep eq ea = rw ea (
      record {
        least = omega (arith, so_far.least);
        within = fits;
        whole = omega (arith, so_far.whole);
        filled =
            record {
              long = stored_long tables s block 40 ∙ so_far.filled.long;
              other = λ i b. stored_before tables s block 40 i (omega arith) ∙ so_far.filled.other i b;
              done = λ l b. go l b (dec_lt l m);
            };
      })
    where
      s : ℕ
      s = 2087 * d + m

      block : List ℕ
      block = tabulate 40 (block_sum tables (s - p) (s - q))

      fits : m + 40 ≤ 2087
      fits = omega (arith, so_far.whole)

      entry : (l k : ℕ) → k < m → l ≡ 2087 * d + k → at tables l ≡ table_power powers_b ((2047 - d) * k)
      entry l k b e = rw e (so_far.filled.done k b)

      -- entry m + j is the sum of two before
      new : (j : ℕ) → j < 40 → at (stored tables s block 40) (s + j) ≡ table_power powers_b ((2047 - d) * (m + j))
      new j b =
          let gap : 40 ≤ p = rw ep (near_least d most) in
          let more : p < q = rw (ep, eq) (far_more d most) in
          let short : q ≤ 167 = rw eq (far_most d) in
          let lo : 167 ≤ m = so_far.least in
          stored_at tables s block 40 j (omega (arith, fits, so_far.filled.long)) b
          ∙ tabulate_at 40 (block_sum tables (s - p) (s - q)) j 0 b
          ∙ ap₂ xor (entry (s - p + j) (m + j - p) (omega arith) (omega arith)) (entry (s - q + j) (m + j - q) (omega arith) (omega arith))
          ∙ rw (ep, eq) (sym (table_sum d (m + j) pos most (omega (arith, eq))))

      go : (l : ℕ) → l < m + 40 → Dec (l < m) → at (stored tables s block 40) (2087 * d + l) ≡ table_power powers_b ((2047 - d) * l)
      go l b (yes c) = stored_before tables s block 40 (2087 * d + l) (omega arith) ∙ so_far.filled.done l c
      go l b (no c) =
          let e : 2087 * d + l ≡ s + (l - m) = omega arith in
          let f : m + (l - m) ≡ l = omega arith in
          ap (at (stored tables s block 40)) e ∙ new (l - m) (omega arith) ∙ ap (λ (k : ℕ). table_power powers_b ((2047 - d) * k)) f

  pub blocks_end : 2087 ≤ m → TableFilled powers_b before d 2087 tables
  blocks_end h = let q : m ≡ 2087 = omega (arith, so_far.within) in rw q at so_far.filled

pub blocks_none : {before : List ℕ} {d : ℕ} → TableFilled powers_b before d 167 before → TableBlocks before d (167 + 40 * 0) before
blocks_none F = record { least = lit≤ tt; within = lit≤ tt; whole = refl; filled = F }

-- k blocks are stored
module _ (before : List ℕ) (d k : ℕ) (tables : List ℕ) (so_far : TableBlocks before d (167 + 40 * k) tables) where
  pub block_next : (p q : ℕ) (after : List ℕ) → length before ≡ 18784 → 0 < d → d ≤ 8 → k < 48 → p ≡ at near d → q ≡ at far d →
      after ≡ with_sums tables (2087 * d + 167 + 40 * k) p q → TableBlocks before d (167 + 40 * (k + 1)) after
  block_next p q after size pos most h ep eq ea =
      let e : 2087 * d + 167 + 40 * k ≡ 2087 * d + (167 + 40 * k) = omega arith in
      let f : 167 + 40 * (k + 1) ≡ 167 + 40 * k + 40 = omega arith in
      rw f (blocks_next before d (167 + 40 * k) tables so_far p q after size pos most (omega arith) ep eq (ea ∙ ap (λ (s : ℕ). with_sums tables s p q) e))

  pub block_end : 48 ≤ k → TableFilled powers_b before d 2087 tables
  block_end h = blocks_end before d (167 + 40 * k) tables so_far (omega arith)

-- ---- a table that is filled

module _ (es before started tables : List ℕ) (d : ℕ) (exp : es ≡ powers_b) (start : TableFilled es before d 167 started) where
  pub started_whole : TableFilled powers_b started d 167 started
  started_whole = record { long = refl; other = λ i h. refl; done = rw exp at start.done }

  pub table_long : TableFilled powers_b started d 2087 tables → length tables ≡ length before
  table_long rest = rest.long ∙ start.long

  module _ (tables_are : PowerTables es before) (most : d ≤ 8) (next : d ≡ at before 18783 + 1) (rest : TableFilled powers_b started d 2087 tables) where
    pub table_count : at (set tables 18783 d) 18783 ≡ d
    table_count = get_or-set_same tables 18783 d 0 (omega (arith, start.long, rest.long, tables_are.long))

    pub table_end : PowerTables es (set tables 18783 d)
    table_end =
        record {
          long = length-set tables 18783 d ∙ rest.long ∙ start.long ∙ tables_are.long;
          zeros = λ i l. other i (omega arith) (omega arith) ∙ tables_are.zeros i l;
          few = rw table_count most;
          powers = λ f i pos l b. go f i pos (omega (arith, table_count)) b (ℕ_discrete f d);
        }
      where
        same : (i : ℕ) → ¬ (i ≡ 18783) → at (set tables 18783 d) i ≡ at tables i
        same i q = get_or-set_other tables 18783 i d 0 q

        other : (i : ℕ) → i < 18783 → i < 2087 * d → at (set tables 18783 d) i ≡ at before i
        other i l h = same i (λ q. omega arith) ∙ rest.other i h ∙ start.other i h

        go : (f i : ℕ) → 0 < f → f ≤ d → i < 2087 → Dec (f ≡ d) → at (set tables 18783 d) (2087 * f + i) ≡ table_power es ((2047 - f) * i)
        go f i pos l b (yes q) = rw (q, exp) (same (2087 * d + i) (λ e. omega arith) ∙ rest.done i b)
        go f i pos l b (no q) = other (2087 * f + i) (omega arith) (omega arith) ∙ tables_are.powers f i pos (omega arith) b

-- ---- where the terms' values stand

pub reciprocal_lt : (d : ℕ) → at reciprocals d < 2047
unfolding reciprocals all_below every
reciprocal_lt d = below_at 2047 reciprocals (lit< tt) refl d

-- 2,048 q + r is 2,047 q + (q + r): modulo 2,047 the two parts of a number add up to it
module _ (x : ℕ) (small : x < 4194303) where
  pub folded_fits : Fits w64 (x / 2 ^ 11 + bit_and x 2047)
  folded_fits = record { fits = rw (and_mask x 11) (omega arith) }

  pub folded_is : (r : ℕ) → r ≡ wrapped 2047 (x / 2 ^ 11 + bit_and x 2047) → r ≡ x % 2047
  folded_is r er =
      let twice : x / 2048 + x % 2048 < 2047 + 2047 = omega arith in
      let whole : x / 2048 + x % 2048 + 2047 * (x / 2048) ≡ x = omega arith in
      er ∙ rw (and_mask x 11) (wrapped_modulo 2047 (x / 2048 + x % 2048) twice)
      ∙ sym (add-mul-mod_self_left (x / 2048 + x % 2048) 2047 (x / 2048)) ∙ ap (λ (u : ℕ). u % 2047) whole

module _ (c d : ℕ) where
  pub base_zero : c ≡ 0 → 0 ≡ table_base c d
  unfolding table_base
  base_zero z = rw (eq-eqb c 0 z)

  pub base_table : (c ≡ 0 → ⊥) → 2087 * d ≡ table_base c d
  unfolding table_base
  base_table z = rw (ne_eqb c 0 z)

  module _ (ls : List ℕ) (n : ℕ) where
    pub start_zero : c ≡ 0 → 0 ≡ table_start ls c d n
    unfolding table_start
    start_zero z = rw (eq-eqb c 0 z)

    pub start_table : (c ≡ 0 → ⊥) → (l e r p : ℕ) → l ≡ at ls c → e ≡ 2047 - l → r ≡ at reciprocals d → p ≡ e * r → (p + (2047 + 1 - n)) % 2047 ≡ table_start ls c d n
    unfolding table_start
    start_table z l e r p el ee er ep = rw (ne_eqb c 0 z, ep, ee, er, el)

    pub start_folded : (c ≡ 0 → ⊥) → (l e s : ℕ) → l ≡ at ls c → e ≡ 2047 - l → s ≡ (e * at reciprocals d + (2047 + 1 - n)) % 2047 → s ≡ table_start ls c d n
    unfolding table_start
    start_folded z l e s el ee es = rw (ne_eqb c 0 z, ← el, ← ee) es

-- the base and the start of the term of degree d + 1
unfoldable pub term_base : List ℕ → ℕ → ℕ
term_base v d = table_base (at v (7 - d)) (d + 1)

unfoldable pub term_start : List ℕ → List ℕ → ℕ → ℕ → ℕ
term_start ls v n d = table_start ls (at v (7 - d)) (d + 1) n

module _ (v : List ℕ) (d : ℕ) (terms : List TermTable) where
  pub bases_next : (r s : ℕ) → Filled 8 (term_base v) d (bases_of terms) → d < 8 → r ≡ table_base (get_or v (8 - 1 - d) 0) (d + 1) →
      Filled 8 (term_base v) (d + 1) (bases_of (set terms d (record { base = r; start = s })))
  unfolding term_base
  bases_next r s so_far h e = rw (map-set (λ (t : TermTable). t.base) terms d (record { base = r; start = s })) (filled_next so_far h e)

  pub bases_end : Filled 8 (term_base v) d (bases_of terms) → 8 ≤ d → bases_of terms ≡ table_bases v
  unfolding term_base table_bases
  bases_end so_far h = filled_end so_far h

  module _ (ls : List ℕ) (n : ℕ) where
    pub starts_next : (r s : ℕ) → Filled 8 (term_start ls v n) d (starts_of terms) → d < 8 → s ≡ table_start ls (get_or v (8 - 1 - d) 0) (d + 1) n →
        Filled 8 (term_start ls v n) (d + 1) (starts_of (set terms d (record { base = r; start = s })))
    unfolding term_start
    starts_next r s so_far h e = rw (map-set (λ (t : TermTable). t.start) terms d (record { base = r; start = s })) (filled_next so_far h e)

    pub starts_end : Filled 8 (term_start ls v n) d (starts_of terms) → 8 ≤ d → starts_of terms ≡ table_starts ls v n
    unfolding term_start table_starts
    starts_end so_far h = filled_end so_far h

abbrev no_term : TermTable
no_term = record { base = 0; start = 0 }

-- the base and the start of one of the terms
module _ (terms : List TermTable) (d : ℕ) where
  base_is : at (bases_of terms) d ≡ (get_or terms d no_term).base
  base_is = get_or-map (λ (t : TermTable). t.base) terms d no_term

  start_is : at (starts_of terms) d ≡ (get_or terms d no_term).start
  start_is = get_or-map (λ (t : TermTable). t.start) terms d no_term

  pub term_small : (i : ℕ) → i < 2047 → ((k : ℕ) → at (bases_of terms) k ≤ 16696) → ((k : ℕ) → at (starts_of terms) k < 2047) →
      (i < 2047) × ((get_or terms d no_term).base ≤ 16696) × ((get_or terms d no_term).start < 2047)
  term_small i h b s = (h, rw base_is at (b d), rw start_is at (s d))

  pub term_position : (i r : ℕ) → r ≡ (get_or terms d no_term).base + ((get_or terms d no_term).start + i) % 2047 → r ≡ table_position (bases_of terms) (starts_of terms) i d
  unfolding table_position
  term_position i r e = rw (base_is, start_is) e

module _ (base start i r : ℕ) (most : base ≤ 16696) (er : r ≡ (start + i) % 2047) where
  small : r < 2047
  small = rw er (mod-lt (start + i) (lit< tt))

  pub position_small : base + r < 18446744073709551616
  position_small = omega (arith, most, small)

  pub position_is : base + r ≡ base + (start + i) % 2047
  position_is = rw er

  pub position_fits : base + r + 40 ≤ 18784
  position_fits = omega (arith, most, small)

-- ---- the sums

pub four_is : (tables : List ℕ) (a b c d l u w r : ℕ) → u ≡ xor (get_or tables (a + l) 0) (get_or tables (b + l) 0) → w ≡ xor (get_or tables (c + l) 0) (get_or tables (d + l) 0) → r ≡ xor u w →
    r ≡ four_at tables a b c d l
unfolding four_at
four_is tables a b c d l u w r eu ew er = er ∙ ap₂ xor eu ew

pub eight_is : (tables : List ℕ) (a b c d e f g h l u w r : ℕ) → u ≡ four_at tables a b c d l → w ≡ four_at tables e f g h l → r ≡ xor u w → r ≡ eight_at tables a b c d e f g h l
unfolding eight_at
eight_is tables a b c d e f g h l u w r eu ew er = er ∙ ap₂ xor eu ew

-- unless one was found, none of f 0, .. f (l - 1) is x
pub record Unequal (f : ℕ → ℕ) (x l : ℕ) (found : Bool) : Type 0 where
  pub within : l ≤ 40
  pub none : found ≡ false → (k : ℕ) → k < l → f k ≡ x → ⊥

pub unequal_none : {f : ℕ → ℕ} {x : ℕ} → Unequal f x 0 false
unequal_none = record { within = zero-le; none = λ z k h. absurd (not-suc-le-zero h) }

or_false : (a b : Bool) → (a || b) ≡ false → (a ≡ false) × (b ≡ false)
or_false false false h = (refl, refl)
or_false false true h = absurd (omega (arith, ap {B = ℕ} (λ (b : Bool). cond b 1 0) h))
or_false true b h = absurd (omega (arith, ap {B = ℕ} (λ (b : Bool). cond b 1 0) h))

module _ {f : ℕ → ℕ} {x l : ℕ} {found : Bool} (so_far : Unequal f x l found) where
  pub unequal_next : {v : ℕ} → l < 40 → v ≡ f l → Unequal f x (l + 1) (found || eqb v x)
  unequal_next {v} h e = record { within = omega arith; none = λ q k b. go (or_false found (eqb v x) q) k b (ℕ_discrete k l) }
    where
      go : (found ≡ false) × (eqb v x ≡ false) → (k : ℕ) → k < l + 1 → Dec (k ≡ l) → f k ≡ x → ⊥
      go q k b (yes s) t = absurd (omega (arith, ap {B = ℕ} (λ (b : Bool). cond b 1 0) (sym (eq-eqb v x (e ∙ ap f (sym s) ∙ t)) ∙ q.1)))
      go q k b (no s) t = so_far.none q.0 k (omega arith) t

  pub unequal_end : 40 ≤ l → found ≡ false → (k : ℕ) → k < 40 → f k ≡ x → ⊥
  unequal_end h q k b = so_far.none q k (omega arith)

-- ---- the places that are kept

pub kept_few : (i : ℕ) (p : Places) → p.count ≤ 8 → (kept i p).count ≤ 8
unfolding kept
kept_few i p h = go (ltb p.count 8) refl
  where
    go : (b : Bool) → ltb p.count 8 ≡ b → (cond b (record { at = set p.at p.count i; count = p.count + 1 }) p).count ≤ 8
    go true e = omega (arith, ltb-true p.count 8 e)
    go false e = h

pub keep_few : (i : ℕ) (p r : Places) → r ≡ kept i p → p.count ≤ 8 → r.count ≤ 8
keep_few i p r er few = rw er (kept_few i p few)

module _ (f : ℕ → ℕ) (x i : ℕ) (p₀ : Places) where
  pub kept_none : p₀ ≡ kept_to f x i p₀ 0
  unfolding kept_to
  kept_none = refl

  -- nothing is kept where f is never x
  kept_same : (l : ℕ) → ((k : ℕ) → k < l → f k ≡ x → ⊥) → p₀ ≡ kept_to f x i p₀ l
  unfolding kept_to
  kept_same zero n = refl
  kept_same (suc l) n = rw (ne_eqb (f l) x (n l (le_refl (suc l)))) (kept_same l (λ k h. n k (omega arith)))

  module _ (l : ℕ) (p : Places) (so_far : p ≡ kept_to f x i p₀ l) where
    pub kept_here : (v : ℕ) (r : Places) → v ≡ f l → v ≡ x → r ≡ kept (i + l) p → r ≡ kept_to f x i p₀ (l + 1)
    unfolding kept_to
    kept_here v r ev e er = rw (add-one, ← so_far, ← ev, eq-eqb v x e) er

    pub kept_not : (v : ℕ) → v ≡ f l → (v ≡ x → ⊥) → p ≡ kept_to f x i p₀ (l + 1)
    unfolding kept_to
    kept_not v ev n = rw (add-one, ← so_far, ← ev, ne_eqb v x n)

    pub kept_end : l ≤ 40 → 40 ≤ l → p ≡ kept_to f x i p₀ 40
    kept_end lo hi = let q : l ≡ 40 = omega arith in rw q at so_far

-- a block, by the positions of its tables
module _ (tables bases starts : List ℕ) (x i : ℕ) (p : List ℕ) (places : Places) (is : Filled 8 (table_position bases starts i) 8 p) where
  by_tables : sum_from tables p ≡ tables_sum tables bases starts i
  unfolding tables_sum
  by_tables =
      rw (is.done 0 (lit< tt), is.done 1 (lit< tt), is.done 2 (lit< tt), is.done 3 (lit< tt), is.done 4 (lit< tt), is.done 5 (lit< tt), is.done 6 (lit< tt), is.done 7 (lit< tt)) refl

  pub block_some : (r : Places) → r ≡ kept_to (sum_from tables p) x i places 40 → r ≡ kept_to (tables_sum tables bases starts i) x i places 40
  block_some r er = er ∙ ap (λ (s : ℕ → ℕ). kept_to s x i places 40) by_tables

  pub block_none : (z : Bool) → z ≡ false → (z ≡ false → (l : ℕ) → l < 40 → sum_from tables p l ≡ x → ⊥) → places ≡ kept_to (tables_sum tables bases starts i) x i places 40
  block_none z q n = block_some places (kept_same (sum_from tables p) x i places 40 (n q))

-- so far the positions of some of the eight terms are there, and blocks from them on lie within the tables
pub record Positions (bases starts : List ℕ) (i d : ℕ) (p : List ℕ) : Type 0 where
  pub filled : Filled 8 (table_position bases starts i) d p
  pub inside : (k : ℕ) → k < d → at p k + 40 ≤ 18784

pub positions_none : {bases starts p : List ℕ} {i : ℕ} → length p ≡ 8 → Positions bases starts i 0 p
positions_none e = record { filled = filled_start e; inside = λ k h. absurd (not-suc-le-zero h) }

module _ {bases starts p : List ℕ} {i d : ℕ} (so_far : Positions bases starts i d p) where
  pub positions_next : {r : ℕ} → d < 8 → r ≡ table_position bases starts i d → r + 40 ≤ 18784 → Positions bases starts i (d + 1) (set p d r)
  positions_next {r} h e fits = record { filled = filled_next so_far.filled h e; inside = λ k l. go k l (ℕ_discrete k d) }
    where
      go : (k : ℕ) → k < d + 1 → Dec (k ≡ d) → at (set p d r) k + 40 ≤ 18784
      go k l (yes e) = rw (e, get_or-set_same p d r 0 (omega (arith, so_far.filled.long))) fits
      go k l (no n) = rw (get_or-set_other p d k r 0 n) (so_far.inside k (omega arith))

  pub positions_all : 8 ≤ d → Filled 8 (table_position bases starts i) 8 p
  positions_all h = let q : d ≡ 8 = omega (arith, so_far.filled.within) in rw q at so_far.filled

  pub positions_inside : (tables : List ℕ) → 8 ≤ d → length tables ≡ 18784 → AllInside tables p
  positions_inside tables h size k l = rw size (so_far.inside k (omega arith))

-- the tables of the terms lie within the buffer
pub bases_most : (v bases : List ℕ) → bases ≡ table_bases v → (k : ℕ) → at bases k ≤ 16696
unfolding table_bases table_base
bases_most v bases e k = rw e (go (dec_lt k 8))
  where
    pick : (b : Bool) (d : ℕ) → d ≤ 8 → cond b 0 (2087 * d) ≤ 16696
    pick true d h = zero-le
    pick false d h = omega arith

    f : ℕ → ℕ
    f d = cond (eqb (at v (7 - d)) 0) 0 (2087 * (d + 1))

    go : Dec (k < 8) → at (tabulate 8 f) k ≤ 16696
    go (yes h) = rw (tabulate_at 8 f k 0 h) (pick (eqb (at v (7 - k)) 0) (k + 1) (omega arith))
    go (no h) = rw (sym (past (tabulate 8 f) k (rw (tabulate_length 8 f) (omega arith)))) zero-le

pub starts_most : (ls v starts : List ℕ) (n : ℕ) → starts ≡ table_starts ls v n → (k : ℕ) → at starts k < 2047
unfolding table_starts table_start
starts_most ls v starts n e k = rw e (tabulate_lt 2047 8 _ (lit< tt) (λ d. pick (eqb (at v (7 - d)) 0) _) k)
  where
    pick : (b : Bool) (y : ℕ) → cond b 0 (y % 2047) < 2047
    pick true y = lit< tt
    pick false y = mod-lt y (lit< tt)
