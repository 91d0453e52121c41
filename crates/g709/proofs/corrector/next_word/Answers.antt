use Rattle.g709.proofs.WordByWord.{clean_word, word_answered}
use borrow.Author.Rules.{rules}
use Rattle.g709.proofs.corrector.next_word.Goals as goal

pub returns-then-all_below-clause-word_done : goal.returns-then-all_below-clause-word_done
returns-then-all_below-clause-word_done c = clean_word _ _ _ _ _ c.requires.remains c.lane-t.ensures c.all_below.ensures c.if-all_below.true

pub returns-clause-word_done : goal.returns-clause-word_done
returns-clause-word_done c = word_answered _ _ _ _ c.correct_word.ensures.0 (search rules)
