use Rattle.fields.specs.Elements.{xor}
use Rattle.g709.proofs.ByteProducts.{double_is}
use borrow.Author.Rules.{rules}
use Rattle.g709.proofs.columns.double.Goals as goal

pub returns : goal.returns
unfolding xor
returns c = search (rules, double_is)
