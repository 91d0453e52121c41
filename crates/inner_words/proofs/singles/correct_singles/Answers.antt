use borrow.Author.Rules.{rules}
use Rattle.std.proofs.Common.{arith}
use Rattle.inner_words.proofs.Passes.InnerPass.{as_bit, going_start, going_wrong, going_residues, going_twice, going_fits, going_next, going_left, going_end}
use Rattle.inner_words.proofs.singles.correct_singles.Goals as goal

pub loop-k-init : goal.loop-k-init
loop-k-init c = search (rules, going_start)

pub overflow_mul-left : goal.overflow_mul-left
overflow_mul-left c = search (rules, going_twice)

pub try_single-requires : goal.try_single-requires
try_single-requires c = record {
  small = omega arith;
  k_value = search (rules, going_wrong);
  word_residues = λ q. search (rules, going_residues);
}

pub overflow_add-left : goal.overflow_add-left
overflow_add-left c = rw (c.from.ensures, as_bit) (going_fits c.loop-k.invariant c.loop-k-test.true c.try_single.ensures)

pub loop-k-preserved : goal.loop-k-preserved
loop-k-preserved c = rw (c.from.ensures, as_bit) (going_next c.loop-k.invariant c.loop-k-test.true c.try_single.ensures)

pub returns : goal.returns
returns c = (search (rules, going_left), search (rules, going_end))
