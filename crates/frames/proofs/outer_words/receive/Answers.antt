use native.Mathlib.Omega.{arith}
use borrow.Author.Rules.{rules}
use Rattle.words.specs.Bits.{bit_at}
use Rattle.frames.proofs.OuterSymbols.Writing.{symbols_next, symbols_end}
use Rattle.frames.proofs.outer_words.receive.Goals as goal

pub loop-w-preserved : goal.loop-w-preserved
loop-w-preserved c = symbols_next (bit_at c.args.block.now) _ c.loop-w.invariant c.loop-w-test.true (omega arith) c.receive_word.ensures

pub returns : goal.returns
returns c = search (rules, symbols_end)
