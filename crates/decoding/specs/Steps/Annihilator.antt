-- A polynomial that annihilates the syndromes, over a field that is given as its two tables: by elimination, and by the Berlekamp-Massey algorithm.
use Rattle.std.specs.Prelude.{◌≡◌, cond, List, [], ◌∷◌, ℕ, zero, suc, ◌+◌, ◌-◌, ◌*◌, ◌≤◌, ◌<◌, eqb, ltb, length, get_or, set, replicate}
use Rattle.fields.specs.Lists.{tabulate}
use Rattle.fields.specs.Elements.{xor}
use Rattle.fields.specs.Steps.ByTables.{table_product, table_inverse}
use Rattle.fields.specs.Places.{at}
use Rattle.decoding.specs.declared.annihilator.Recurrence.{Recurrence}
use Rattle.decoding.specs.Steps.Decoder.{xor_to}

-- the polynomial with the coefficients b 0, .. b (n - 1), highest power first, applied to the sequence s: x^k stands for s k
unfoldable pub applied : (ℕ → ℕ → ℕ) → (ℕ → ℕ) → ℕ → (ℕ → ℕ) → ℕ
applied mul b zero s = 0
applied mul b (suc n) s = xor (applied mul b n (λ k. s (suc k))) (mul (b n) (s 0))

-- v is a polynomial of degree at most 8, not zero, that annihilates the syndromes t: applied to t from j on it gives 0, for eight j
pub record Annihilates (es ls t v : List ℕ) : Type 0 where
  pub elements : (k : ℕ) → at v k < length ls
  pub leading : ℕ
  pub leading_lt : leading < 9
  pub leading_one : at v leading ≡ 1
  pub equations : (j : ℕ) → j < 8 → applied (table_product es ls) (at v) 9 (λ k. at t (j + k)) ≡ 0

-- rows of the elimination. Cells 0 to 7: a polynomial applied to t from 0, .. 7 on; cells 8 to 16: its coefficients, highest power first.
-- The row of the polynomial x^d. Times 1: an element, whatever number t holds there
unfoldable pub power_row : List ℕ → List ℕ → List ℕ → ℕ → List ℕ
power_row es ls t d = tabulate 17 (λ i. cond (ltb i 8) (table_product es ls 1 (at t (d + i))) (cond (eqb (i + d) 16) 1 0))

-- u plus c times v
unfoldable pub plus_scaled : List ℕ → List ℕ → List ℕ → ℕ → List ℕ → List ℕ
plus_scaled es ls u c v = tabulate 17 (λ i. xor (at u i) (table_product es ls c (at v i)))

-- r is u plus c times v in the cells from `from` to below `to`, and u in the others
pub record PlusPart (es ls u : List ℕ) (c : ℕ) (v : List ℕ) (from to : ℕ) (r : List ℕ) : Type 0 where
  pub long : length r ≡ 17
  pub before : (k : ℕ) → k < from → at r k ≡ at u k
  pub added : (k : ℕ) → from ≤ k → k < to → at r k ≡ xor (at u k) (table_product es ls c (at v k))
  pub after : (k : ℕ) → to ≤ k → at r k ≡ at u k

-- a row whose cells before cell j are zero, and so are its coefficients before cell `top`
pub record Zeros (v : List ℕ) (j top : ℕ) : Type 0 where
  pub before : (k : ℕ) → k < j → at v k ≡ 0
  pub above : (k : ℕ) → 8 ≤ k → k < top → at v k ≡ 0

-- u with cell j made zero by the pivot v, where cell j of v is not zero; u itself, where v is zero
unfoldable pub cell_cleared : List ℕ → List ℕ → List ℕ → List ℕ → ℕ → List ℕ
cell_cleared es ls u v j = plus_scaled es ls u (table_product es ls (at u j) (table_inverse es ls (at v j))) v

-- the cells of row j of a list of rows
unfoldable pub cells_of : List (List ℕ) → ℕ → List ℕ
cells_of rows j = get_or rows j []

-- u with its first n cells made zero by the pivots of these cells, one after the other
unfoldable pub reduced : List ℕ → List ℕ → List ℕ → List (List ℕ) → ℕ → List ℕ
reduced es ls u pivots zero = u
reduced es ls u pivots (suc j) = cell_cleared es ls (reduced es ls u pivots j) (cells_of pivots j) j

-- j is the first of the cells 0 to 7 of u that is not zero; 8, if all are
pub record FirstNonzero (u : List ℕ) (j : ℕ) : Type 0 where
  pub most : j ≤ 8
  pub before : (i : ℕ) → i < j → at u i ≡ 0
  pub here : j < 8 → at u j ≡ 0 → ⊥

-- the recurrence of the syndromes: its coefficients are lowest power first. The sum over i below k of c i times t (n - i)
unfoldable pub convolved : List ℕ → List ℕ → List ℕ → List ℕ → ℕ → ℕ → ℕ
convolved es ls c t n k = xor_to k (λ i. table_product es ls (at c i) (at t (n - i)))

-- c plus f times x^s times the first k coefficients of p
unfoldable pub plus_shifted : List ℕ → List ℕ → List ℕ → ℕ → List ℕ → ℕ → ℕ → List ℕ
plus_shifted es ls c f p s zero = c
plus_shifted es ls c f p s (suc k) =
    let r = plus_shifted es ls c f p s k in
    set r (s + k) (xor (at r (s + k)) (table_product es ls f (at p k)))

-- the recurrence after step n, where that has the discrepancy d, not zero
unfoldable pub adjusted : List ℕ → List ℕ → ℕ → ℕ → Recurrence → Recurrence
adjusted es ls n d s =
    let shift = n + 1 - s.since in
    let c = plus_shifted es ls s.coefficients (table_product es ls d (table_inverse es ls s.discrepancy)) s.previous shift (9 - shift) in
    cond (ltb n (2 * s.order)) (record { coefficients = c; previous = s.previous; order = s.order; since = s.since; discrepancy = s.discrepancy })
    (record { coefficients = c; previous = s.coefficients; order = n + 1 - s.order; since = n + 1; discrepancy = d })

-- step n: where its discrepancy is zero, the recurrence stays
unfoldable pub berlekamp_massey_step : List ℕ → List ℕ → List ℕ → ℕ → Recurrence → Recurrence
berlekamp_massey_step es ls t n s =
    let d = convolved es ls s.coefficients t n (s.order + 1) in
    cond (eqb d 0) s (adjusted es ls n d s)

-- the recurrence after the first n steps of Berlekamp and Massey's algorithm
unfoldable pub berlekamp_massey : List ℕ → List ℕ → List ℕ → ℕ → Recurrence
berlekamp_massey es ls t zero = record { coefficients = 1 ∷ replicate 8 0; previous = 1 ∷ replicate 8 0; order = 0; since = 0; discrepancy = 1 }
berlekamp_massey es ls t (suc n) = berlekamp_massey_step es ls t n (berlekamp_massey es ls t n)

-- coefficient k, highest power first, of the polynomial that a recurrence of that order, at most 8, is
unfoldable pub reversed_at : List ℕ → ℕ → ℕ → ℕ
reversed_at c order k = cond (ltb (k + order) 8) 0 (at c (k + order - 8))
