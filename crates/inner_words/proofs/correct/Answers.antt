use borrow.Author.Rules.{rules}
use Rattle.inner_words.proofs.Remainders.ResidueCodes.{words_wrong, words_right, whole_residues}
use Rattle.inner_words.proofs.Passes.InnerPass.{nearer_twice, left_residues, none_restored, nearer_restored, pass_lent}
use Rattle.inner_words.proofs.correct.Goals as goal

pub returns-then-wrong-eq0 : goal.returns-then-wrong-eq0
returns-then-wrong-eq0 c =
    let told = words_wrong _ _ _ c.residues-residues.ensures c.wrong-wrong.ensures in
    pass_lent _ _ _ c.in-Some.ensures.cases c.requires (none_restored _ _ told c.if-wrong-eq0.true)
    (words_right _ _ _ c.residues-residues.ensures c.wrong-wrong.ensures c.if-wrong-eq0.true)

pub correct_singles-many-requires : goal.correct_singles-many-requires
correct_singles-many-requires c = record {
  wrong_value = search (rules, words_wrong);
  by_index = λ k l q. whole_residues _ _ c.residues-residues.ensures k l;
}

pub correct-left-requires : goal.correct-left-requires
correct-left-requires c = record {
  wrong_value = search rules;
  by_index = λ k l q. left_residues _ _ _ _ c.correct_singles-many.ensures.1 c.correct_singles-many.ensures.0 c.residues-residues.ensures k l q;
}

pub correct_each-requires : goal.correct_each-requires
correct_each-requires c = record {
  wrong_value = search rules;
  by_index =
      λ k l q. left_residues _ _ _ _ (nearer_twice _ _ _ c.correct_singles-many.ensures.1 c.correct-left.ensures.1) c.correct-left.ensures.0 c.residues-residues.ensures k l q;
}

pub returns : goal.returns
returns c =
    let nearer = nearer_twice _ _ _ c.correct_singles-many.ensures.1 c.correct-left.ensures.1 in
    pass_lent _ _ _ c.in-Some.ensures.cases c.requires (nearer_restored _ _ _ nearer c.correct_each.ensures.1) c.correct_each.ensures.0
