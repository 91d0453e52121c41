use Rattle.g709.proofs.Correcting.{few_errors, byte_values, word_lost, word_found, few_changed}
use borrow.Author.Rules.{rules}
use Rattle.g709.proofs.corrector.correct_word.Goals as goal

pub returns-then-not-all_below : goal.returns-then-not-all_below
returns-then-not-all_below c = (search (rules, word_lost), search rules)

pub add_values-requires : goal.add_values-requires
add_values-requires c = record {
  from_bound = search (rules, few_errors);
  byte_values = search (rules, byte_values);
}

pub returns : goal.returns
returns c = (search (rules, word_found), search (rules, few_changed))
