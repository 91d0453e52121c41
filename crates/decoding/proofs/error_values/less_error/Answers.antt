use borrow.Author.Rules.{rules}
use Rattle.fields.proofs.Places.Filling.{filled_start}
use Rattle.decoding.proofs.Steps.Errors.{power_none, power_next, less_next, less_end}
use Rattle.decoding.proofs.error_values.less_error.Goals as goal

pub loop-j-init : goal.loop-j-init
loop-j-init c = search (rules, filled_start, power_none)

pub loop-j-preserved : goal.loop-j-preserved
loop-j-preserved c = search (rules, less_next, power_next)

pub returns : goal.returns
returns c = search (rules, less_end)
