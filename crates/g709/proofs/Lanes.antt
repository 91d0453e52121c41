-- Division of sixteen words side by side: a step on all the registers is a step of each. Assumes nothing.
use mathlib.Core.Path.{◌≡◌, refl, sym, ap, ap₂, ◌∙◌}
use mathlib.Core.List.{List, [], ◌∷◌}
use Prim.Native.Nat.{ℕ, zero, suc, ◌+◌, ◌*◌, ◌/◌, ◌%◌, ◌≤◌, ◌<◌}
use native.Mathlib.Decide.{dec_lt}
use native.Mathlib.Nat.{not-suc-le-zero}
use native.Mathlib.Omega.{arith}
use lib.ListN.{length, set, replicate, length-replicate, get_or-eq_default}
use Rattle.fields.specs.Lists.{tabulate}
use Rattle.fields.specs.Elements.{xor, times_c}
use Rattle.fields.proofs.Lists.{tabulate_at, tabulate_is, tabulate_length, tabulate_same}
use Rattle.fields.specs.Places.{at}
use Rattle.words.specs.ReedSolomon.{generator_of, shifted_in, divided}
use Rattle.fields.proofs.Places.Filling.{zeros_at, Filled, filled_end}
use Rattle.words.proofs.Codes.Division.{divided_length}
use Rattle.words.proofs.Codes.Packing.{divided_same}
use Rattle.g709.specs.Steps.Registers.{registers, row_divided, leading, cell_stored, cells_stored}
use Rattle.g709.proofs.ByteCode.{generator_c}
use Rattle.g709.proofs.Overlays.{over_length, over_in, over_front, over_behind, OverTo, over_next, over_end}

-- ---- the leading coefficients

pub leading_end : (r c f : List ℕ) (from k : ℕ) → Filled 16 (λ k. xor (at r k) (at c (from + k))) k f → 16 ≤ k → f ≡ leading r c from
unfolding leading
leading_end r c f from k h le = filled_end h le

-- ---- a cell of the sixteen registers

abbrev pub new_cell : List ℕ → List ℕ → ℕ → ℕ → ℕ → ℕ
new_cell r f n y j = xor (at r (n + 16 + j)) (times_c (at f j) y)

pub cell_next : (l f : List ℕ) (n y j p v : ℕ) (o : List ℕ) → OverTo l n 16 (new_cell l f n y) j o → j < 16 → n + 16 ≤ length l → p ≡ times_c (at f j) y → v ≡ xor (at o (n + 16 + j)) p →
    OverTo l n 16 (new_cell l f n y) (j + 1) (set o (n + j) v)
cell_next l f n y j p v o h lt room ep ev = over_next l n 16 (new_cell l f n y) j v o h lt (omega arith) (ev ∙ ap₂ xor (h.behind (n + 16 + j) (omega arith)) ep)

pub cell_end : (l f : List ℕ) (n k y j : ℕ) (o : List ℕ) → n ≡ 16 * k → OverTo l n 16 (new_cell l f n y) j o → 16 ≤ j → o ≡ cell_stored l f k y
unfolding cell_stored
cell_end l f n k y j o e h le = over_end l n 16 (new_cell l f n y) j o h le ∙ rw e

-- ---- all cells

module _ (r f : List ℕ) (long : length r ≡ 272) where
  pub cells_length : (n : ℕ) → length (cells_stored r f n) ≡ 272
  unfolding cells_stored cell_stored
  cells_length zero = long
  cells_length (suc n) = over_length (cells_stored r f n) (16 * n) 16 _ ∙ cells_length n

  cells_behind : (n i : ℕ) → 16 * n ≤ i → at (cells_stored r f n) i ≡ at r i
  unfolding cells_stored cell_stored
  cells_behind zero i h = refl
  cells_behind (suc n) i h = over_behind (cells_stored r f n) (16 * n) 16 _ i (omega arith) ∙ cells_behind n i (omega arith)

  cells_at_lem : (n c j : ℕ) → n ≤ 16 → c < n → j < 16 → at (cells_stored r f n) (16 * c + j) ≡ xor (at r (16 * c + 16 + j)) (times_c (at f j) (at (generator_of 8 285 0 16) (suc c)))
  unfolding cells_stored cell_stored
  cells_at_lem zero c j hn hc hj = absurd (not-suc-le-zero hc)
  cells_at_lem (suc n) c j hn hc hj = go (λ l. cells_at_lem n c j (omega arith) l hj) (dec_lt c n)
    where
      go : (c < n → at (cells_stored r f n) (16 * c + j) ≡ xor (at r (16 * c + 16 + j)) (times_c (at f j) (at (generator_of 8 285 0 16) (suc c)))) → Dec (c < n) → at (cell_stored (cells_stored r f n) f n (at (generator_of 8 285 0 16) (suc n))) (16 * c + j) ≡ xor (at r (16 * c + 16 + j)) (times_c (at f j) (at (generator_of 8 285 0 16) (suc c)))
      go rest (yes l) = over_front (cells_stored r f n) (16 * n) 16 _ (16 * c + j) (omega arith) ∙ rest l
      go rest (no l) =
          let e : c ≡ n = omega arith in
          rw e
          (over_in (cells_stored r f n) (16 * n) 16 _ j hj (omega (arith, cells_length n))
          ∙ ap (λ (x : ℕ). xor x (times_c (at f j) (at (generator_of 8 285 0 16) (suc n)))) (cells_behind n (16 * n + 16 + j) (omega arith)))

pub no_cells : (r f : List ℕ) → r ≡ cells_stored r f 0
unfolding cells_stored
no_cells r f = refl

-- one cell more, with the coefficient of a list that has them all
pub one_cell : (r f a b : List ℕ) (k : ℕ) → a ≡ cells_stored r f k →
    b ≡ cell_stored a f k (at (59 ∷ 13 ∷ 104 ∷ 189 ∷ 68 ∷ 209 ∷ 30 ∷ 8 ∷ 163 ∷ 65 ∷ 41 ∷ 229 ∷ 98 ∷ 50 ∷ 36 ∷ 59 ∷ []) k) → b ≡ cells_stored r f (k + 1)
unfolding cells_stored
one_cell r f a b k ea eb =
    let n : suc k ≡ k + 1 = omega arith in
    let y : at (59 ∷ 13 ∷ 104 ∷ 189 ∷ 68 ∷ 209 ∷ 30 ∷ 8 ∷ 163 ∷ 65 ∷ 41 ∷ 229 ∷ 98 ∷ 50 ∷ 36 ∷ 59 ∷ []) k ≡ at (generator_of 8 285 0 16) (suc k) = sym (ap (λ (g : List ℕ). at g (suc k)) generator_c) in
    eb ∙ ap₂ (λ (a : List ℕ) (y : ℕ). cell_stored a f k y) ea y ∙ ap (cells_stored r f) n

pub of_leading : (r f g o : List ℕ) → f ≡ g → o ≡ cells_stored r f 16 → o ≡ cells_stored r g 16
of_leading r f g o e h = h ∙ ap (λ (f : List ℕ). cells_stored r f 16) e

-- ---- the registers

abbrev pub lane : (ℕ → ℕ) → ℕ → ℕ → List ℕ
lane d s j = divided times_c 16 (at (generator_of 8 285 0 16)) (λ t. d (16 * t + j)) s

pub registers_length : (d : ℕ → ℕ) (s : ℕ) → length (registers d s) ≡ 272
unfolding registers
registers_length d s = tabulate_length 272 _

pub registers_at : (d : ℕ → ℕ) (s c j : ℕ) → c < 17 → j < 16 → at (registers d s) (16 * c + j) ≡ at (lane d s j) c
unfolding registers
registers_at d s c j hc hj =
    let q : (16 * c + j) / 16 ≡ c = omega arith in
    let m : (16 * c + j) % 16 ≡ j = omega arith in
    tabulate_at 272 _ (16 * c + j) 0 (omega arith) ∙ rw (q, m)

pub registers_none : (d : ℕ → ℕ) → tabulate 272 (λ i. 0) ≡ registers d 0
unfolding registers divided
registers_none d = tabulate_same 272 (λ i. 0) _ (λ i l. go i l (dec_lt (i / 16) 16))
  where
    go : (i : ℕ) → i < 272 → Dec (i / 16 < 16) → 0 ≡ at (tabulate 16 (λ i. 0)) (i / 16)
    go i l (yes h) = sym (tabulate_at 16 (λ i. 0) (i / 16) 0 h)
    go i l (no h) = sym (get_or-eq_default (tabulate 16 (λ i. 0)) 0 {n = i / 16} (omega (arith, tabulate_length {A = ℕ} 16 (λ i. 0))))

-- one register's step, at a cell that it has and past its end
lane_next : (d : ℕ → ℕ) (s j c : ℕ) → c < 16 → at (lane d (suc s) j) c ≡ xor (at (lane d s j) (suc c)) (times_c (xor (at (lane d s j) 0) (d (16 * s + j))) (at (generator_of 8 285 0 16) (suc c)))
unfolding divided shifted_in
lane_next d s j c h = tabulate_at 16 _ c 0 h

pub lane_past : (d : ℕ → ℕ) (s j : ℕ) → at (lane d s j) 16 ≡ 0
lane_past d s j = get_or-eq_default (lane d s j) 0 {n = 16} (omega (arith, divided_length times_c 16 (at (generator_of 8 285 0 16)) (λ t. d (16 * t + j)) s))

leading_at : (r c : List ℕ) (from k : ℕ) → k < 16 → at (leading r c from) k ≡ xor (at r k) (at c (from + k))
unfolding leading
leading_at r c from k h = tabulate_at 16 _ k 0 h

module _ (d : ℕ → ℕ) (s : ℕ) (row : List ℕ) (from : ℕ) (column : (k : ℕ) → k < 16 → at row (from + k) ≡ d (16 * s + k)) where
  abbrev R : List ℕ
  R = registers d s

  abbrev F : List ℕ
  F = leading R row from

  long : length R ≡ 272
  long = registers_length d s

  new : (c j : ℕ) → j < 16 → c < 17 → at (cells_stored R F 16) (16 * c + j) ≡ at (lane d (suc s) j) c
  new c j hj hc = go (dec_lt c 16)
    where
      go : Dec (c < 16) → at (cells_stored R F 16) (16 * c + j) ≡ at (lane d (suc s) j) c
      go (yes h) =
          let up : 16 * c + 16 + j ≡ 16 * suc c + j = omega arith in
          let zero : j ≡ 16 * 0 + j = omega arith in
          cells_at_lem R F long 16 c j (omega arith) h hj
          ∙ ap₂ (λ (x y : ℕ). xor x (times_c y (at (generator_of 8 285 0 16) (suc c)))) (ap (at R) up ∙ registers_at d s (suc c) j (omega arith) hj)
          (leading_at R row from j hj ∙ ap₂ xor (ap (at R) zero ∙ registers_at d s 0 j (omega arith) hj) (column j hj))
          ∙ sym (lane_next d s j c h)
      go (no h) =
          let e : c ≡ 16 = omega arith in
          rw e (cells_behind R F long 16 (16 * 16 + j) (omega arith) ∙ registers_at d s 16 j (omega arith) hj ∙ lane_past d s j ∙ sym (lane_past d (suc s) j))

  pub registers_step : cells_stored R F 16 ≡ registers d (suc s)
  unfolding registers
  registers_step =
      tabulate_is 272 _ (cells_stored R F 16) 0 (cells_length R F long 16)
      (λ i l. let e : i ≡ 16 * (i / 16) + i % 16 = omega arith in ap (at (cells_stored R F 16)) e ∙ new (i / 16) (i % 16) (omega arith) (omega arith))

-- they are those of the bytes of 239 columns
pub same_registers : (d e : ℕ → ℕ) → ((i : ℕ) → i < 3824 → d i ≡ e i) → registers d 239 ≡ registers e 239
unfolding registers
same_registers d e h =
    tabulate_same 272 _ _ (λ i l.
    ap (λ (c : List ℕ). at c (i / 16))
    (divided_same times_c 16 (at (generator_of 8 285 0 16)) (λ t. d (16 * t + i % 16)) (λ t. e (16 * t + i % 16)) 239 (λ t b. h (16 * t + i % 16) (omega arith))))

-- lists of zeros
pub zeros_table : (n : ℕ) → replicate {A = ℕ} n 0 ≡ tabulate n (λ i. 0)
zeros_table n = tabulate_is n (λ i. 0) (replicate n 0) 0 (length-replicate n 0) (λ i l. zeros_at n i)

pub zeros_length : (n : ℕ) → length (replicate {A = ℕ} n 0) ≡ n
zeros_length n = length-replicate n 0

-- the loop over the columns
pub divide_start : (row r : List ℕ) (from : ℕ) → r ≡ tabulate 272 (λ i. 0) → r ≡ row_divided row from 0
unfolding row_divided
divide_start row r from e = e ∙ registers_none (λ i. at row (from + i))

pub divide_next : (row : List ℕ) (from s : ℕ) (r o : List ℕ) → r ≡ row_divided row from s → o ≡ cells_stored r (leading r row (from + 16 * s)) 16 → o ≡ row_divided row from (s + 1)
unfolding row_divided
divide_next row from s r o er eo =
    let d : ℕ → ℕ = λ i. at row (from + i) in
    let n : suc s ≡ s + 1 = omega arith in
    eo ∙ rw er (registers_step d s row (from + 16 * s) (λ k h. let e : from + 16 * s + k ≡ from + (16 * s + k) = omega arith in ap (at row) e)) ∙ ap (registers d) n

pub divide_end : (row r : List ℕ) (from s n : ℕ) → r ≡ row_divided row from s → s ≤ n → n ≤ s → r ≡ row_divided row from n
divide_end row r from s n e l g = let n : s ≡ n = omega arith in e ∙ ap (row_divided row from) n
