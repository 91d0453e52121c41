use Rattle.fields.specs.Elements.{xor}
use Rattle.g709.proofs.ColumnSyndromes.{value_next, value_end}
use borrow.Author.Rules.{rules}
use Rattle.g709.proofs.syndromes.next_value.Goals as goal

pub loop-l-preserved : goal.loop-l-preserved
unfolding xor
loop-l-preserved c = search (rules, value_next)

pub returns : goal.returns
returns c = search (rules, value_end)
