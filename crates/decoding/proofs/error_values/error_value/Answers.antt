use borrow.Author.Rules.{rules}
use Rattle.decoding.proofs.Steps.Errors.{filter_none, filter_next, factor_none, factor_next, value_found}
use Rattle.decoding.proofs.error_values.error_value.Goals as goal

pub loop-i-init : goal.loop-i-init
loop-i-init c = search (rules, filter_none, factor_none)

pub loop-i-preserved : goal.loop-i-preserved
loop-i-preserved c = (search rules, search (rules, filter_next), search (rules, factor_next))

pub returns : goal.returns
returns c = search (rules, value_found)
