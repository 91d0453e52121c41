use Rattle.g709.proofs.WordByWord.{count_left_out}
use borrow.Author.Rules.{rules}
use Rattle.g709_c.proofs.g709_correct.Goals as goal

pub returns : goal.returns
returns c = search (rules, count_left_out)
