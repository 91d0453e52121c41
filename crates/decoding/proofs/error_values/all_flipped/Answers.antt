use borrow.Author.Rules.{rules}
use Rattle.decoding.proofs.Steps.Flips.{flipped_none, flipped_place, flipped_next}
use Rattle.decoding.proofs.error_values.all_flipped.Goals as goal

pub loop-k-init : goal.loop-k-init
loop-k-init c = search (rules, flipped_none)

pub flipped-e-requires : goal.flipped-e-requires
flipped-e-requires c = search (rules, flipped_place)

pub loop-k-preserved : goal.loop-k-preserved
loop-k-preserved c = search (rules, flipped_next)
