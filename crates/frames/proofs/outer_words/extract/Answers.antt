use native.Mathlib.Omega.{arith}
use borrow.Author.Rules.{rules}
use Prim.Native.Nat.{ℕ}
use lib.ListN.{length-take, length-drop}
use Rattle.frames.proofs.OuterSymbols.Writing.{payload_start, payload_word, payload_all}
use Rattle.frames.proofs.outer_words.extract.Goals as goal

pub loop-w-init : goal.loop-w-init
loop-w-init c = search (rules, payload_start)

pub loop-w-preserved : goal.loop-w-preserved
loop-w-preserved c = search (rules, payload_word)

pub returns : goal.returns
returns c =
    payload_all c.args.outer.now _ _ c.loop-w.invariant (omega arith) c.loop-w-test.false c.extract_each.ensures
    (omega (arith, length-take {A = ℕ}, length-drop {A = ℕ})) (omega arith)
