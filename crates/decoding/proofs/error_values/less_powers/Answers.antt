use borrow.Author.Rules.{rules}
use Rattle.decoding.proofs.Steps.Flips.{powers_next, powers_end}
use Rattle.decoding.proofs.error_values.less_powers.Goals as goal

pub loop-j-preserved : goal.loop-j-preserved
loop-j-preserved c = search (rules, powers_next)

pub returns : goal.returns
returns c = search (rules, powers_end)
