use borrow.Author.Rules.{rules}
use Rattle.exports.proofs.Lists.{list_written}
use Rattle.exports.proofs.exports_worst_words.Goals as goal

pub returns : goal.returns
returns c = search (rules, list_written)
