-- Loops that store the places of a list one after the other. Assumes nothing.
use mathlib.Core.Path.{◌≡◌, refl, sym, ap, ◌∙◌}
use mathlib.Core.List.{List}
use Prim.Native.Nat.{ℕ, zero, suc, ◌+◌, ◌≤◌, ◌<◌, zero-le}
use native.Mathlib.Decide.{ℕ_discrete}
use native.Mathlib.Nat.{le_refl, not-suc-le-zero}
use native.Mathlib.Numerals.{add-one}
use native.Mathlib.Omega.{arith}
use lib.ListN.{length, get_or, set, replicate, length-set}
use lib.Seq.{ext_get_or, get_or-set_same, get_or-set_other}
use Rattle.fields.specs.Lists.{tabulate}
use Rattle.fields.proofs.Lists.{tabulate_is}

-- a list of zeros is zero everywhere, past its end too
pub zeros_at : (n i : ℕ) → ◌≡◌ {A = ℕ} (get_or (replicate n 0) i 0) 0
zeros_at zero i = refl
zeros_at (suc n) zero = refl
zeros_at (suc n) (suc i) = zeros_at n i

-- the invariant: the first k of n places hold f 0, f 1, .. f (k - 1)
pub record Filled (n : ℕ) (f : ℕ → ℕ) (k : ℕ) (out : List ℕ) : Type 0 where
  pub long : length out ≡ n
  pub within : k ≤ n
  pub done : (i : ℕ) → i < k → get_or out i 0 ≡ f i

pub filled_start : {n : ℕ} {f : ℕ → ℕ} {out : List ℕ} → length out ≡ n → Filled n f 0 out
filled_start e = record { long = e; within = zero-le; done = λ i h. absurd (not-suc-le-zero h) }

pub filled_next : {n k v : ℕ} {f : ℕ → ℕ} {out : List ℕ} → Filled n f k out → k < n → v ≡ f k → Filled n f (k + 1) (set out k v)
filled_next {n} {k} {v} {f} {out} h l e =
    record { long = length-set out k v ∙ h.long; within = omega arith; done = λ i b. go i b (ℕ_discrete i k) }
  where
    go : (i : ℕ) → i < k + 1 → Dec (i ≡ k) → get_or (set out k v) i 0 ≡ f i
    go i b (yes q) = rw q (get_or-set_same out k v 0 (omega (arith, h.long)) ∙ e)
    go i b (no q) = get_or-set_other out k i v 0 q ∙ h.done i (omega arith)

pub filled_end : {n k : ℕ} {f : ℕ → ℕ} {out : List ℕ} → Filled n f k out → n ≤ k → out ≡ tabulate n f
filled_end {n} {k} {f} {out} h l = tabulate_is n f out 0 h.long (λ i b. h.done i (omega arith))

-- where the places are those of a list
pub filled_list : {n k : ℕ} {cells out : List ℕ} → length cells ≡ n → Filled n (λ i. get_or cells i 0) k out → n ≤ k → out ≡ cells
filled_list {n} {k} {cells} {out} e h l = ext_get_or 0 out cells (h.long ∙ sym e) (λ i b. h.done i (omega (arith, h.long)))

-- the last of n + 1 places, stored after the others
pub filled_last : {n k v : ℕ} {f : ℕ → ℕ} {out : List ℕ} → Filled (suc n) f k out → n ≤ k → v ≡ f n → set out n v ≡ tabulate (suc n) f
filled_last {n} {k} {v} {f} {out} h l e =
    let before : Filled (suc n) f n out = record { long = h.long; within = omega arith; done = λ i b. h.done i (omega arith) } in
    filled_end (filled_next before (le_refl (suc n)) e) (omega arith)

-- the invariant of a list that is stored over the list before it: the first k places hold f 0, f 1, .. f (k - 1), the others what they held
pub record FilledOver (n : ℕ) (f : ℕ → ℕ) (before : List ℕ) (k : ℕ) (cells : List ℕ) : Type 0 where
  pub filled : Filled n f k cells
  pub ahead : (i : ℕ) → k ≤ i → get_or cells i 0 ≡ get_or before i 0

pub over_start : {n : ℕ} {f : ℕ → ℕ} {before : List ℕ} → length before ≡ n → FilledOver n f before 0 before
over_start e = record { filled = filled_start e; ahead = λ i h. refl }

pub over_next : {n k v : ℕ} {f : ℕ → ℕ} {before cells : List ℕ} → FilledOver n f before k cells → k < n → v ≡ f k →
    FilledOver n f before (k + 1) (set cells k v)
over_next {n} {k} {v} {f} {before} {cells} h l e =
    record { filled = filled_next h.filled l e; ahead = λ i b. get_or-set_other cells k i v 0 (λ q. omega arith) ∙ h.ahead i (omega arith) }

-- the place after place k
pub over_after : {n k : ℕ} {f : ℕ → ℕ} {before cells : List ℕ} → FilledOver n f before k cells → get_or cells (k + 1) 0 ≡ get_or before (suc k) 0
over_after {n} {k} {f} {before} h = h.ahead (k + 1) (omega arith) ∙ ap (λ (i : ℕ). get_or before i 0) (add-one k)
