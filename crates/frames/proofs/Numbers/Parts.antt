-- Parts of the numbers f 0, f 1, .., written into a buffer one after the other. Assumes nothing.
use mathlib.Core.Path.{◌≡◌, sym, ap, ◌∙◌, subst}
use mathlib.Core.List.{List, ◌++◌}
use Prim.Native.Nat.{ℕ, ◌+◌, ◌-◌, ◌≤◌, ◌<◌}
use native.Mathlib.Decide.{dec_lt}
use native.Mathlib.Omega.{arith}
use borrow.Rule.Slice.PartMut.{put_mid}
use lib.ListN.{length}
use Rattle.fields.specs.Places.{at}
use Rattle.fields.specs.Steps.Buffers.{Placed}
use Rattle.fields.proofs.Lists.{tabulate_append, tabulate_at, tabulate_length}
use Rattle.fields.proofs.Places.Filling.{Filled}
use Rattle.frames.specs.Steps.Symbols.{part_from}
use Rattle.frames.proofs.Numbers.Slices.{placed_slice}

module _ (f : ℕ → ℕ) (k n : ℕ) where
  pub part_length : length (part_from f k n) ≡ n
  unfolding part_from
  part_length = tabulate_length n _

  pub part_at : (m : ℕ) → m < n → at (part_from f k n) m ≡ f (k + m)
  unfolding part_from
  part_at m l = tabulate_at n _ m 0 l

  -- one part after another
  pub part_filled : {size : ℕ} {out after : List ℕ} → Filled size f k out → k + n ≤ size → Placed k (part_from f k n) out after → Filled size f (k + n) after
  part_filled {size} {out} {after} h room p = record { long = p.long ∙ h.long; within = room; done = λ m l. go m l (dec_lt m k) }
    where
      go : (m : ℕ) → m < k + n → Dec (m < k) → at after m ≡ f m
      go m l (yes b) = p.below m b ∙ h.done m b
      go m l (no b) =
          let e : k + (m - k) ≡ m = omega arith in
          rw e at (p.inside (m - k) (omega (arith, part_length)) ∙ part_at (m - k) (omega arith))

-- a part that is written as a slice
pub part_written : (f : ℕ → ℕ) (k n s : ℕ) {size : ℕ} {out ys : List ℕ} → Filled size f k out → k + n ≤ size → s ≡ n → ys ≡ part_from f k n →
    Filled size f (k + n) (put_mid k s out ys)
part_written f k n s {size} {out} {ys} h room es e =
    let p : Placed k ys out (put_mid k s out ys) = placed_slice k s ys out (ap length e ∙ part_length f k n ∙ sym es) (omega (arith, h.long)) in
    part_filled f k n h room (subst (λ (xs : List ℕ). Placed k xs out (put_mid k s out ys)) e p)

-- two parts are one
pub part_append : (f : ℕ → ℕ) (k m n : ℕ) → part_from f k m ++ part_from f (k + m) n ≡ part_from f k (m + n)
unfolding part_from
part_append f k m n = tabulate_append m n (λ j. f (k + j)) (λ j. f (k + m + j)) (λ j. ap f (omega arith))
