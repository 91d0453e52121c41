use borrow.Author.Rules.{rules}
use Rattle.words.proofs.Steps.Corrections.{tables_given, word_fits, correct_outer_lost, correct_outer_found}
use Rattle.words.proofs.corrector.correct_from.Goals as goal

pub decode-e-requires : goal.decode-e-requires
decode-e-requires c = record {
  tables = search (rules, tables_given);
  n_in_bounds = (search (rules, word_fits), search rules);
}

pub returns-then-not-all_below : goal.returns-then-not-all_below
returns-then-not-all_below c = search (rules, correct_outer_lost)

pub returns : goal.returns
returns c = search (rules, correct_outer_found)
