use borrow.Author.Rules.{rules}
use Rattle.exports.proofs.Packed.{inner_few, inner_packed}
use Rattle.exports.proofs.exports_correct_inner.Goals as goal

pub packed_inner-requires : goal.packed_inner-requires
packed_inner-requires c = search (rules, inner_few)

pub returns : goal.returns
returns c = search (rules, inner_packed)
