use Rattle.words.proofs.Steps.Joining.{parities_long, parity_none, parity_next}
use borrow.Author.Rules.{rules}
use Rattle.words.proofs.packed.six_parity.Goals as goal

pub loop-d-init : goal.loop-d-init
loop-d-init c = search (rules, parity_none)

pub loop-d-preserved : goal.loop-d-preserved
loop-d-preserved c = search (rules, parity_next)

pub with_digit-p-requires : goal.with_digit-p-requires
with_digit-p-requires c = search (rules, parities_long)
