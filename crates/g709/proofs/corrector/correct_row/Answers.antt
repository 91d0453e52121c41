use native.Mathlib.Omega.{arith}
use Rattle.g709.proofs.WordByWord.{part_syndromes, none_on}
use Rattle.g709.proofs.corrector.correct_row.Goals as goal

pub next_words-requires-clause-row_syndromes : goal.next_words-requires-clause-row_syndromes
next_words-requires-clause-row_syndromes c =
    let part = rw c.unwrap.ensures at c.try_into.ensures.1 in
    part_syndromes _ _ _ _ _ _ (omega arith) (λ i. omega (arith, c.type_inv.block i)) part.same c.remainders-rest.ensures c.syndromes-s.ensures

pub returns-in_err-changed : goal.returns-in_err-changed
returns-in_err-changed c = none_on _ _ _ _ _ _ c.from_residual.ensures c.in_err-changed.was (omega arith) c.next_words.ensures

pub next_words-requires-2-clause-row_syndromes : goal.next_words-requires-2-clause-row_syndromes
next_words-requires-2-clause-row_syndromes c =
    let part = rw c.unwrap.ensures at c.try_into.ensures.1 in
    part_syndromes _ _ _ _ _ _ (omega arith) (λ i. omega (arith, c.type_inv.block i)) part.same c.remainders-rest.ensures c.syndromes-s.ensures
