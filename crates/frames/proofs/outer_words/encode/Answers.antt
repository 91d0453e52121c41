use native.Mathlib.Omega.{arith}
use borrow.Author.Rules.{rules}
use Rattle.frames.proofs.OuterSymbols.Words.{written_next, written_all}
use Rattle.frames.proofs.outer_words.encode.Goals as goal

pub loop-w-preserved : goal.loop-w-preserved
loop-w-preserved c =
    written_next _ c.loop-w.invariant c.loop-w-test.true (omega arith) c.write_word.ensures

pub returns : goal.returns
returns c = search (rules, written_all)
