use native.Mathlib.Omega.{arith}
use Rattle.g709.proofs.WordByWord.{word_remains, row_found, row_lost}
use Rattle.g709.proofs.corrector.next_words.Goals as goal

pub next_word-requires-clause-remains : goal.next_word-requires-clause-remains
next_word-requires-clause-remains c = word_remains _ _ _ _ _ _ _ (λ i. omega (arith, c.type_inv.block i)) c.requires.row_syndromes (omega arith) c.requires.r_bound.3 c.loop-k.invariant

pub returns-in_err-changed : goal.returns-in_err-changed
returns-in_err-changed c = row_lost _ _ _ _ _ _ _ (omega arith) c.requires.r_bound.3 c.loop-k.invariant c.next_word.ensures.word_done _ _ c.from_residual.ensures c.in_err-changed.was (omega arith)

pub loop-k-preserved : goal.loop-k-preserved
loop-k-preserved c = row_found _ _ _ _ _ _ _ (omega arith) c.requires.r_bound.3 c.loop-k.invariant c.next_word.ensures.word_done _ c.in_ok-changed.was c.next_word.ensures.few
