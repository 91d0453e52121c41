use borrow.Author.Rules.{rules}
use Rattle.fields.specs.Elements.{xor}
use Rattle.decoding.proofs.symbols.sum.Goals as goal

pub returns : goal.returns
unfolding xor
returns c = search rules
