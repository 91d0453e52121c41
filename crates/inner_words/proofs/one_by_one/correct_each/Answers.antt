use borrow.Author.Rules.{rules}
use Rattle.std.proofs.Common.{arith}
use Rattle.inner_words.proofs.Passes.InnerPass.{as_bit, none_restored, going_start, going_wrong, going_residues, going_twice, going_fits, going_next, going_left, going_end}
use Rattle.inner_words.proofs.one_by_one.correct_each.Goals as goal

pub returns-then-wrong-eq0 : goal.returns-then-wrong-eq0
returns-then-wrong-eq0 c = (search rules, search (rules, none_restored))

pub loop-k-init : goal.loop-k-init
loop-k-init c = record { words = search (rules, going_start); tables = c.empty_tables.ensures _ }

pub overflow_mul-left : goal.overflow_mul-left
overflow_mul-left c = going_twice c.loop-k.invariant.words c.loop-k-test.true

pub correct_wrong-requires : goal.correct_wrong-requires
correct_wrong-requires c = record {
  tables = search rules;
  small = omega arith;
  k_value = search (rules, going_wrong);
  word_residues = λ q. search (rules, going_residues);
}

pub overflow_add-left : goal.overflow_add-left
overflow_add-left c = rw (c.from.ensures, as_bit) (going_fits c.loop-k.invariant.words c.loop-k-test.true c.correct_wrong.ensures.put)

pub loop-k-preserved : goal.loop-k-preserved
loop-k-preserved c = record {
  words = rw (c.from.ensures, as_bit) (going_next c.loop-k.invariant.words c.loop-k-test.true c.correct_wrong.ensures.put);
  tables = search rules;
}

pub returns : goal.returns
returns c = (search (rules, going_left), search (rules, going_end))
