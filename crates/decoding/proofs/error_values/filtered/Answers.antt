use borrow.Author.Rules.{rules}
use Rattle.decoding.proofs.Steps.Errors.{filtered_next, filtered_end}
use Rattle.decoding.proofs.error_values.filtered.Goals as goal

pub loop-j-preserved : goal.loop-j-preserved
loop-j-preserved c = search (rules, filtered_next)

pub returns : goal.returns
returns c = search (rules, filtered_end)
