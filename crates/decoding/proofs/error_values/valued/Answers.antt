use borrow.Author.Rules.{rules}
use Rattle.decoding.proofs.Decoding.Completeness.{resolving_start, resolving_next, resolving_end}
use Rattle.decoding.proofs.error_values.valued.Goals as goal

pub loop-k-init : goal.loop-k-init
loop-k-init c = search (rules, resolving_start)

pub loop-k-preserved : goal.loop-k-preserved
loop-k-preserved c = search (rules, resolving_next)

pub returns : goal.returns
returns c = search (rules, resolving_end)
