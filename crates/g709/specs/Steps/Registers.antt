-- Sixteen division registers side by side, as the division of a row keeps them: cell i of register k is byte 16 i + k. Sixteen zeros stand after them, so
-- that the cell after the last one is read as 0.
use Rattle.std.specs.Prelude.{Bool, cond, List, ℕ, zero, suc, ◌+◌, ◌-◌, ◌*◌, ◌/◌, ◌%◌, ltb, eqb, length}
use Rattle.fields.specs.Lists.{tabulate}
use Rattle.fields.specs.Elements.{xor, times_c}
use Rattle.fields.specs.Places.{at, every}
use Rattle.words.specs.ReedSolomon.{generator_of, divided}

-- a list with f 0, f 1, .. f (n - 1) stored over it from place b on
unfoldable pub over : List ℕ → ℕ → ℕ → (ℕ → ℕ) → List ℕ
over l b n f = tabulate (length l) (λ i. cond (ltb i b) (at l i) (cond (ltb (i - b) n) (f (i - b)) (at l i)))

-- the registers after the first s columns of bytes d
unfoldable pub registers : (ℕ → ℕ) → ℕ → List ℕ
registers d s = tabulate 272 (λ i. at (divided times_c 16 (at (generator_of 8 285 0 16)) (λ t. d (16 * t + i % 16)) s) (i / 16))

-- the bytes being those of a row from a place on
unfoldable pub row_divided : List ℕ → ℕ → ℕ → List ℕ
row_divided row from s = registers (λ i. at row (from + i)) s

-- the sixteen leading coefficients: the first cells with the next column added
unfoldable pub leading : List ℕ → List ℕ → ℕ → List ℕ
leading r c from = tabulate 16 (λ k. xor (at r k) (at c (from + k)))

-- cell k of the sixteen registers stored: the cell after it, and y times the leading coefficients taken away
unfoldable pub cell_stored : List ℕ → List ℕ → ℕ → ℕ → List ℕ
cell_stored r f k y = over r (16 * k) 16 (λ j. xor (at r (16 * k + 16 + j)) (times_c (at f j) y))

-- the first n cells stored
unfoldable pub cells_stored : List ℕ → List ℕ → ℕ → List ℕ
cells_stored r f zero = r
cells_stored r f (suc n) = cell_stored (cells_stored r f n) f n (at (generator_of 8 285 0 16) (suc n))

-- row r of a payload stored in a buffer: its data, and after them the registers
unfoldable pub row_written : List ℕ → ℕ → List ℕ → List ℕ
row_written p r o = over (over o (4080 * r) 3824 (λ i. at p (3824 * r + i))) (4080 * r + 3824) 256 (λ i. at (row_divided p (3824 * r) 239) (0 + i))

-- row r of a block ends with the registers of its data
unfoldable pub agree : List ℕ → List ℕ → ℕ → ℕ → Bool
agree a b from n = every n (λ i. eqb (at a i) (at b (from + i)))

unfoldable pub row_agrees : List ℕ → ℕ → Bool
row_agrees b r = agree (row_divided b (4080 * r) 239) b (4080 * r + 3824) 256

-- the remainders of the sixteen words of the row at a place: the registers of its data, and its parity bytes added
unfoldable pub row_remainders : List ℕ → ℕ → List ℕ
row_remainders row from = over (row_divided row from 239) 0 256 (λ i. xor (at (row_divided row from 239) i) (at row (from + 3824 + i)))
