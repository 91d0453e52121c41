-- What the search for the roots by tables of powers gives. It serves the field whose element a has the order 2,047, and reads blocks of 40 places.
use Rattle.std.specs.Prelude.{◌≡◌, cond, List, [], ◌∷◌, ℕ, zero, suc, ◌+◌, ◌-◌, ◌*◌, ◌%◌, ◌≤◌, ◌<◌, eqb, length, set, map}
use Rattle.fields.specs.Lists.{tabulate}
use Rattle.fields.specs.Elements.{xor}
use Rattle.fields.specs.Steps.ByTables.{table_power}
use Rattle.fields.specs.Places.{at}
use Rattle.decoding.specs.declared.power_tables.TermTable.{TermTable}
use Rattle.decoding.specs.declared.root_search.Places.{Places}
use Rattle.decoding.specs.Steps.RootSearch.{kept}

-- nine tables of 2,087 entries and the number of those after the first that are there. The first is zero; entry m of table d is a^(-d m)
pub record PowerTables (es tables : List ℕ) : Type 0 where
  pub long : length tables ≡ 18784
  pub zeros : (m : ℕ) → m < 2087 → at tables m ≡ 0
  pub few : at tables 18783 ≤ 8
  pub powers : (d m : ℕ) → 0 < d → d ≤ at tables 18783 → m < 2087 → at tables (2087 * d + m) ≡ table_power es ((2047 - d) * m)

-- tables as before, but that the first m entries of table d are there; what stands behind these is left open
pub record TableFilled (es before : List ℕ) (d m : ℕ) (tables : List ℕ) : Type 0 where
  pub long : length tables ≡ length before
  pub other : (i : ℕ) → i < 2087 * d → at tables i ≡ at before i
  pub done : (l : ℕ) → l < m → at tables (2087 * d + l) ≡ table_power es ((2047 - d) * l)

-- an entry of table d is the sum of those so far before it: x^far = x^(far - near) + 1, for x = a^(-d)
unfoldable pub near : List ℕ
near = 135 ∷ 135 ∷ 135 ∷ 90 ∷ 135 ∷ 105 ∷ 90 ∷ 126 ∷ 135 ∷ []

unfoldable pub far : List ℕ
far = 147 ∷ 147 ∷ 147 ∷ 98 ∷ 147 ∷ 136 ∷ 98 ∷ 152 ∷ 147 ∷ []

-- the sums of the blocks at positions a and b; tables with the first k entries of a block stored from position s on; and with the sums of the blocks that
-- start p and q before
unfoldable pub block_sum : List ℕ → ℕ → ℕ → ℕ → ℕ
block_sum tables a b l = xor (at tables (a + l)) (at tables (b + l))

unfoldable pub stored : List ℕ → ℕ → List ℕ → ℕ → List ℕ
stored tables s block zero = tables
stored tables s block (suc k) = set (stored tables s block k) (s + k) (at block k)

unfoldable pub with_sums : List ℕ → ℕ → ℕ → ℕ → List ℕ
with_sums tables s p q = stored tables s (tabulate 40 (block_sum tables (s - p) (s - q))) 40

-- 1 / d modulo 2,047
unfoldable pub reciprocals : List ℕ
reciprocals = 0 ∷ 1 ∷ 1024 ∷ 1365 ∷ 512 ∷ 819 ∷ 1706 ∷ 585 ∷ 256 ∷ []

-- the table of the term c x^d, by its first entry; and the entry of that table that is the term's value at place 0 of n
unfoldable pub table_base : ℕ → ℕ → ℕ
table_base c d = cond (eqb c 0) 0 (2087 * d)

unfoldable pub table_start : List ℕ → ℕ → ℕ → ℕ → ℕ
table_start ls c d n = cond (eqb c 0) 0 (((2047 - at ls c) * at reciprocals d + (2048 - n)) % 2047)

-- the tables and the entries of the terms of degree 1, .. 8 of a polynomial
unfoldable pub table_bases : List ℕ → List ℕ
table_bases v = tabulate 8 (λ d. table_base (at v (7 - d)) (d + 1))

unfoldable pub table_starts : List ℕ → List ℕ → ℕ → List ℕ
table_starts ls v n = tabulate 8 (λ d. table_start ls (at v (7 - d)) (d + 1) n)

-- the same of a list of terms
abbrev pub bases_of : List TermTable → List ℕ
bases_of terms = map (λ t. t.base) terms

abbrev pub starts_of : List TermTable → List ℕ
starts_of terms = map (λ t. t.start) terms

-- where the values from place i on stand
unfoldable pub table_position : List ℕ → List ℕ → ℕ → ℕ → ℕ
table_position bases starts i d = at bases d + (at starts d + i) % 2047

-- blocks from these positions on lie within the tables
pub record Inside (tables : List ℕ) (a b c d : ℕ) : Type 0 where
  pub first : a + 40 ≤ length tables
  pub second : b + 40 ≤ length tables
  pub third : c + 40 ≤ length tables
  pub fourth : d + 40 ≤ length tables

-- the sum of the entries l after four positions; after eight; and after those of the eight terms from place i on
unfoldable pub four_at : List ℕ → ℕ → ℕ → ℕ → ℕ → ℕ → ℕ
four_at tables a b c d l = xor (xor (at tables (a + l)) (at tables (b + l))) (xor (at tables (c + l)) (at tables (d + l)))

unfoldable pub eight_at : List ℕ → ℕ → ℕ → ℕ → ℕ → ℕ → ℕ → ℕ → ℕ → ℕ → ℕ
eight_at tables a b c d e f g h l = xor (four_at tables a b c d l) (four_at tables e f g h l)

-- the same from a list of eight positions on, in which blocks lie within the tables
abbrev pub AllInside : List ℕ → List ℕ → Type 0
AllInside tables p = (k : ℕ) → k < 8 → at p k + 40 ≤ length tables

abbrev pub sum_from : List ℕ → List ℕ → ℕ → ℕ
sum_from tables p = eight_at tables (at p 0) (at p 1) (at p 2) (at p 3) (at p 4) (at p 5) (at p 6) (at p 7)

unfoldable pub tables_sum : List ℕ → List ℕ → List ℕ → ℕ → ℕ → ℕ
tables_sum tables bases starts i =
    let at = table_position bases starts i in
    eight_at tables (at 0) (at 1) (at 2) (at 3) (at 4) (at 5) (at 6) (at 7)

-- the places i, .. i + l - 1 where f is x join the places
unfoldable pub kept_to : (ℕ → ℕ) → ℕ → ℕ → Places → ℕ → Places
kept_to f x i p zero = p
kept_to f x i p (suc l) = cond (eqb (f l) x) (kept (i + l) (kept_to f x i p l)) (kept_to f x i p l)

-- the search for the roots of v in a word of n places has what it needs: tables for all its terms
pub record TablesFor (es ls v : List ℕ) (n : ℕ) (tables : List ℕ) : Type 0 where
  pub order : length es ≡ 2047
  pub short : n ≤ 2047
  pub whole : n % 40 ≡ 0
  pub elements : (k : ℕ) → at v k < length ls
  pub tables_are : PowerTables es tables
  pub enough : (k : ℕ) → k + at tables 18783 < 8 → at v k ≡ 0
