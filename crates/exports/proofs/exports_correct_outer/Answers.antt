use borrow.Author.Rules.{rules}
use Rattle.exports.proofs.Packed.{word_packed}
use Rattle.exports.proofs.exports_correct_outer.Goals as goal

pub returns : goal.returns
returns c = search (rules, word_packed)
