use Rattle.fields.specs.Elements.{xor}
use borrow.Author.Rules.{rules}
use Rattle.words.proofs.digit_table.plus.Goals as goal

pub returns : goal.returns
unfolding xor
returns c = search rules
