use borrow.Author.Rules.{rules}
use Rattle.exports.proofs.Chains.{chain_through}
use Rattle.exports.proofs.exports_products_a.Goals as goal

pub returns : goal.returns
returns c = search (rules, chain_through)
