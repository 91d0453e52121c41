use Prim.Native.Nat.{ℕ, ◌≤◌}
use native.Mathlib.Omega.{arith}
use lib.ListN.{get_or}
use borrow.Author.Rules.{rules}
use Rattle.words.proofs.Steps.InnerCorrection.{correct_inner_length, correct_inner_space, correct_inner_none, correct_inner_found}
use Rattle.words.proofs.correct_inner.Goals as goal

pub returns-then-word-ne-BYTES : goal.returns-then-word-ne-BYTES
returns-then-word-ne-BYTES c = search (rules, correct_inner_length)

pub returns-then-out-ne-BYTES : goal.returns-then-out-ne-BYTES
returns-then-out-ne-BYTES c = search (rules, correct_inner_space)

pub returns-then-not-explains : goal.returns-then-not-explains
returns-then-not-explains c = search (rules, correct_inner_none)

pub returns : goal.returns
returns c =
    let bytes : (k : ℕ) → get_or c.correct.new.out k 0 ≤ 255 = λ k. omega (arith, c.slice_known-2-1.given k) in
    search (rules, correct_inner_found, bytes)
