use borrow.Author.Rules.{rules}
use Rattle.exports.proofs.Chains.{chain_start, chain_next, chain_end}
use Rattle.exports.proofs.products.Goals as goal

pub loop-init : goal.loop-init
loop-init c = search (rules, chain_start)

pub loop-preserved : goal.loop-preserved
loop-preserved c = search (rules, chain_next)

pub returns : goal.returns
returns c = search (rules, chain_end)
