use borrow.Author.Rules.{rules}
use Rattle.inner_words.proofs.Passes.WordErrors.{not_explained, word_explained}
use Rattle.inner_words.proofs.one_by_one.correct_word.Goals as goal

pub returns-then-not-explains : goal.returns-then-not-explains
returns-then-not-explains c = record {
  put = search (rules, not_explained, c.field_b.ensures.exp);
  tables = search rules;
}

pub returns : goal.returns
returns c = record {
  put = search (rules, word_explained, c.field_b.ensures.exp);
  tables = search rules;
}
