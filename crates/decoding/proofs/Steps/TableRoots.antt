-- The roots that the search by tables of powers keeps, block by block. Assumes nothing.
use mathlib.Core.Path.{◌≡◌, sym, ap, ◌∙◌}
use mathlib.Core.Bool.{Bool, true, false, cond}
use mathlib.Core.List.{List}
use Prim.Native.Nat.{ℕ, zero, suc, ◌+◌, ◌-◌, ◌*◌, ◌/◌, ◌%◌, ◌≤◌, ◌<◌, zero-le}
use native.Mathlib.Decide.{ℕ_discrete}
use native.Mathlib.Nat.{le_refl}
use native.Mathlib.Omega.{arith}
use borrow.Author.Tests.{eq-eqb, ne_eqb}
use lib.Dec.{eqb}
use lib.ListN.{length, get_or}
use Rattle.fields.specs.Elements.{xor}
use Rattle.fields.specs.Places.{at}
use Rattle.decoding.specs.declared.root_search.Places.{Places}
use Rattle.decoding.specs.Steps.ByTables.{table_value}
use Rattle.decoding.specs.Steps.Decoder.{Tables, locator}
use Rattle.decoding.specs.Steps.RootSearch.{kept, Roots}
use Rattle.decoding.specs.Steps.PowerTables.{PowerTables, table_bases, table_starts, tables_sum, kept_to, TablesFor}
use Rattle.decoding.proofs.Algebra.Field.{eq_of_add}
use Rattle.decoding.proofs.Algebra.Tables.{table_ops, table_laws}
use Rattle.decoding.proofs.Decoding.PowerTables.{tables_value}
use Rattle.decoding.proofs.Steps.RootsFound.{kept_long, roots_none, roots_kept, roots_other}
use Rattle.decoding.proofs.Steps.PowerTables.{kept_few}

-- room and count stay as they must
module _ (f : ℕ → ℕ) (x i : ℕ) (p : Places) where
  kept_to_few : p.count ≤ 8 → (l : ℕ) → (kept_to f x i p l).count ≤ 8
  unfolding kept_to
  kept_to_few h zero = h
  kept_to_few h (suc l) = go (eqb (f l) x) (kept_to f x i p l) (kept_to_few h l)
    where
      go : (b : Bool) (q : Places) → q.count ≤ 8 → (cond b (kept (i + l) q) q).count ≤ 8
      go true q r = kept_few (i + l) q r
      go false q r = r

  kept_to_long : length p.at ≡ 8 → (l : ℕ) → length (kept_to f x i p l).at ≡ 8
  unfolding kept_to
  kept_to_long h zero = h
  kept_to_long h (suc l) = go (eqb (f l) x) (kept_to f x i p l) (kept_to_long h l)
    where
      go : (b : Bool) (q : Places) → length q.at ≡ 8 → length (cond b (kept (i + l) q) q).at ≡ 8
      go true q r = kept_long (i + l) q r
      go false q r = r

module _ (es ls v : List ℕ) (T : Tables es ls) (n : ℕ) (tables : List ℕ) (R : TablesFor es ls v n tables) (nine : length v ≡ 9) (i : ℕ) (p : Places) (long : length p.at ≡ 8)
    (so_far : Roots es ls v n i p.at p.count) where
  abbrev f : ℕ → ℕ
  f = tables_sum tables (table_bases v) (table_starts ls v n) i

  abbrev q : ℕ → Places
  q l = kept_to f (at v 8) i p l

  block_roots : (l : ℕ) → l ≤ 40 → i + l ≤ n → Roots es ls v n (i + l) (q l).at (q l).count
  unfolding kept_to
  block_roots zero h b = let e : i + 0 ≡ i = omega arith in rw e so_far
  block_roots (suc l) h b =
      let e : i + suc l ≡ suc (i + l) = omega arith in
      rw e (go (ℕ_discrete (f l) (at v 8)) (block_roots l (omega arith) (omega arith)))
    where
      is_value : table_value es ls v (locator es n (i + l)) ≡ xor (at v 8) (f l)
      is_value = tables_value es ls T v n tables R nine i l (omega arith) (omega arith)

      go : Dec (f l ≡ at v 8) → Roots es ls v n (i + l) (q l).at (q l).count → Roots es ls v n (suc (i + l)) (cond (eqb (f l) (at v 8)) (kept (i + l) (q l)) (q l)).at (cond (eqb (f l) (at v 8)) (kept (i + l) (q l)) (q l)).count
      go (yes s) before =
          rw (eq-eqb (f l) (at v 8) s) (roots_kept es ls v n (i + l) (q l) before (kept_to_long f (at v 8) i p long l)
          (is_value ∙ ap (xor (at v 8)) s ∙ (table_laws es ls T).add_self (at v 8)))
      go (no s) before =
          rw (ne_eqb (f l) (at v 8) s) (roots_other es ls v n (i + l) (q l) before (λ z. s (sym (eq_of_add (table_ops es ls) (table_laws es ls T) (sym is_value ∙ z)))))

-- the tables are read for the polynomial v
pub record ReadFor (es ls v : List ℕ) (n : ℕ) (tables bases starts : List ℕ) (x : ℕ) : Type 0 where
  pub bases_are : bases ≡ table_bases v
  pub starts_are : starts ≡ table_starts ls v n
  pub last : x ≡ get_or v 8 0
  pub long : length v ≡ 9
  pub tables_for : TablesFor es ls v n tables

-- the blocks before place i are passed: whatever polynomial the tables are read for, its roots there are kept
pub record Scanning (es ls : List ℕ) (n : ℕ) (tables bases starts : List ℕ) (x i : ℕ) (p : Places) : Type 0 where
  pub most : i ≤ n
  pub whole : i % 40 ≡ 0
  pub few : p.count ≤ 8
  pub long : length p.at ≡ 8
  pub roots : (v : List ℕ) → ReadFor es ls v n tables bases starts x → Roots es ls v n i p.at p.count

pub scanning_none : (es ls : List ℕ) (n : ℕ) (tables bases starts : List ℕ) (x : ℕ) (places : List ℕ) → length places ≡ 8 →
    Scanning es ls n tables bases starts x 0 (record { at = places; count = 0 })
scanning_none es ls n tables bases starts x places e =
    record { most = zero-le; whole = omega arith; few = zero-le; long = e; roots = λ v S. roots_none es ls v n places }

module _ (es ls : List ℕ) (n : ℕ) (tables bases starts : List ℕ) (x i : ℕ) (p : Places) (so_far : Scanning es ls n tables bases starts x i p) where
  pub scanning_next : Tables es ls → i < n → n % 40 ≡ 0 → (r : Places) → r ≡ kept_to (tables_sum tables bases starts i) x i p 40 → Scanning es ls n tables bases starts x (i + 40) r
  scanning_next T h w r er =
      rw er (record {
        most = omega (arith, so_far.whole);
        whole = omega (arith, so_far.whole);
        few = kept_to_few (tables_sum tables bases starts i) x i p so_far.few 40;
        long = kept_to_long (tables_sum tables bases starts i) x i p so_far.long 40;
        roots = λ v S. rw (S.bases_are, S.starts_are, S.last)
            (block_roots es ls v T n tables S.tables_for S.long i p so_far.long (so_far.roots v S) 40 (le_refl 40) (omega (arith, so_far.whole)));
      })

  pub scanning_end : n ≤ i → (v : List ℕ) → bases ≡ table_bases v → starts ≡ table_starts ls v n → x ≡ get_or v 8 0 → length v ≡ 9 → TablesFor es ls v n tables → Roots es ls v n n p.at p.count
  scanning_end h v eb est ex nine R =
      let e : i ≡ n = omega (arith, so_far.most) in
      rw e at (so_far.roots v (record { bases_are = eb; starts_are = est; last = ex; long = nine; tables_for = R }))

-- k blocks are passed
module _ (es ls : List ℕ) (n : ℕ) (tables bases starts : List ℕ) (x k : ℕ) (p : Places) (so_far : Scanning es ls n tables bases starts x (40 * k) p) where
  pub block_passed : Tables es ls → k < n / 40 → n % 40 ≡ 0 → (r : Places) → r ≡ kept_to (tables_sum tables bases starts (40 * k)) x (40 * k) p 40 →
      Scanning es ls n tables bases starts x (40 * (k + 1)) r
  block_passed T h w r er =
      let e : 40 * (k + 1) ≡ 40 * k + 40 = omega arith in
      rw e (scanning_next es ls n tables bases starts x (40 * k) p so_far T (omega arith) w r er)

  pub blocks_passed : n / 40 ≤ k → (v : List ℕ) → bases ≡ table_bases v → starts ≡ table_starts ls v n → x ≡ get_or v 8 0 → length v ≡ 9 → TablesFor es ls v n tables →
      Roots es ls v n n p.at p.count
  blocks_passed h v eb est ex nine R = scanning_end es ls n tables bases starts x (40 * k) p so_far (omega (arith, R.whole)) v eb est ex nine R

module _ {es ls v : List ℕ} {n : ℕ} {tables : List ℕ} (R : TablesFor es ls v n tables) where
  pub tables_long : length tables ≡ 18784
  tables_long = R.tables_are.long

  pub place_small : {i : ℕ} → i < n → i < 2047
  place_small h = omega (arith, R.short)

-- tables up to the degree are enough
pub tables_for : {es ls v : List ℕ} {n z : ℕ} {tables : List ℕ} → length es ≡ 2047 → n ≤ length es → n % 40 ≡ 0 → ((k : ℕ) → at v k < length ls) → ((k : ℕ) → k < z → at v k ≡ 0) →
    PowerTables es tables → 8 - z ≤ at tables 18783 → TablesFor es ls v n tables
tables_for order fits whole elements zeros R enough =
    record { order = order; short = rw order at fits; whole = whole; elements = elements; tables_are = R; enough = λ k h. zeros k (omega arith) }

pub order_fits : (es : List ℕ) → length es ≡ 2047 → length es ≤ 65536
order_fits es e = omega arith
