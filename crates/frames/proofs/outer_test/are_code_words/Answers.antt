use native.Mathlib.Omega.{arith}
use borrow.Author.Rules.{rules}
use Rattle.frames.proofs.OuterSymbols.Tested.{outer_none, two_not, two_next, last_not, last_all}
use Rattle.frames.proofs.outer_test.are_code_words.Goals as goal

pub loop-pair-init : goal.loop-pair-init
loop-pair-init c = search (rules, outer_none)

pub returns-then-not-are_two : goal.returns-then-not-are_two
returns-then-not-are_two c = two_not _ _ c.loop-pair.invariant _ c.are_two.ensures (omega arith) c.if-not-are_two.true

pub loop-pair-preserved : goal.loop-pair-preserved
loop-pair-preserved c = two_next _ _ c.loop-pair.invariant _ c.are_two.ensures c.if-not-are_two.false _ (omega arith)

pub returns-then-is_code_word : goal.returns-then-is_code_word
returns-then-is_code_word c = search (rules, last_all)

pub returns-else-is_code_word : goal.returns-else-is_code_word
returns-else-is_code_word c = search (rules, last_not)
