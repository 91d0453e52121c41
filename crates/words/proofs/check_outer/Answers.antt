use borrow.Author.Rules.{rules}
use Rattle.words.proofs.Steps.Entries.{outer_refused, word_parity, word_symbols, outer_accepted, outer_no_code}
use Rattle.words.proofs.check_outer.Goals as goal

pub returns-in_err-tested : goal.returns-in_err-tested
returns-in_err-tested c = search (rules, outer_refused)

pub remainder-rest-requires : goal.remainder-rest-requires
remainder-rest-requires c = search (rules, word_parity, word_symbols)

pub returns-then-not-all_below : goal.returns-then-not-all_below
returns-then-not-all_below c = search (rules, outer_no_code)

pub returns : goal.returns
returns c = search (rules, outer_accepted)
