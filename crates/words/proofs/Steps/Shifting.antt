-- The division register, stored cell by cell over the register before it. Assumes nothing.
use mathlib.Core.Path.{◌≡◌, sym, ap, ap₂, ◌∙◌}
use mathlib.Core.List.{List}
use Prim.Native.Nat.{ℕ, suc, ◌+◌, ◌≤◌, ◌<◌}
use native.Mathlib.Omega.{arith}
use lib.ListN.{length, get_or, set}
use Rattle.fields.specs.Elements.{xor, times_a}
use Rattle.fields.specs.Places.{at}
use Rattle.fields.proofs.Ways.{past}
use Rattle.fields.proofs.Xor.{xor_zero_l}
use Rattle.fields.proofs.Places.Filling.{filled_last, FilledOver, over_next, over_after}
use Rattle.words.specs.ReedSolomon.{shifted_in}
use Rattle.words.specs.OuterCode.{generator}
use Rattle.words.proofs.Steps.Digits.{DigitMultiples}

-- cell i of the register after reg; f is the leading coefficient
unfoldable pub next_cell : List ℕ → ℕ → ℕ → ℕ
next_cell reg f i = xor (at reg (suc i)) (times_a f (at generator (suc i)))

module _ (low high reg : List ℕ) (f l h k : ℕ) (cells : List ℕ) (multiples : DigitMultiples low high f l h) (so_far : FilledOver 16 (next_cell reg f) reg k cells) where
  pub shifting_next : (m v : ℕ) → k < 15 → v ≡ xor (get_or cells (k + 1) 0) m → m ≡ xor (get_or low (l + k) 0) (get_or high (h + k) 0) →
      FilledOver 16 (next_cell reg f) reg (k + 1) (set cells k v)
  unfolding next_cell
  shifting_next m v b ev em = over_next so_far (omega arith) (ev ∙ ap₂ xor (over_after so_far) (em ∙ multiples.adds k (omega arith)))

  -- nothing moves up into the last cell
  pub shifting_end : (s v : ℕ) → f ≡ xor (at reg 0) s → length reg ≡ 16 → 15 ≤ k → v ≡ xor (get_or low (l + 15) 0) (get_or high (h + 15) 0) →
      set cells 15 v ≡ shifted_in times_a 16 (at generator) reg s
  unfolding shifted_in next_cell
  shifting_end s v ef long hi ev =
      let m = times_a f (at generator 16) in
      let last : v ≡ next_cell reg f 15 = ev ∙ multiples.adds 15 (omega arith) ∙ sym (xor_zero_l m) ∙ ap (λ (x : ℕ). xor x m) (past reg 16 (omega arith)) in
      rw (← ef) (filled_last so_far.filled hi last)
