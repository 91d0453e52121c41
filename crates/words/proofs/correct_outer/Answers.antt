use borrow.Author.Rules.{rules}
use Rattle.words.proofs.Steps.Entries.{word_least, word_most, word_parity, word_symbols}
use Rattle.words.proofs.Steps.Corrections.{correct_outer_refused, correct_outer_fits}
use Rattle.words.proofs.correct_outer.Goals as goal

pub returns-in_err-tested : goal.returns-in_err-tested
returns-in_err-tested c = search (rules, correct_outer_refused)

pub remainder-rest-requires : goal.remainder-rest-requires
remainder-rest-requires c = search (rules, word_parity, word_symbols)

pub correct_from-requires : goal.correct_from-requires
correct_from-requires c = search (rules, word_least, word_most, word_symbols, correct_outer_fits)
