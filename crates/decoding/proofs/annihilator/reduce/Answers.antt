use borrow.Author.Rules.{rules}
use Rattle.decoding.proofs.Steps.Elimination.{reduced_none, reduced_zeros, reduced_next}
use Rattle.decoding.proofs.annihilator.reduce.Goals as goal

pub loop-j-init : goal.loop-j-init
loop-j-init c = search (rules, reduced_none)

pub clear_cell-requires : goal.clear_cell-requires
clear_cell-requires c = search (rules, reduced_zeros)

pub loop-j-preserved : goal.loop-j-preserved
loop-j-preserved c = search (rules, reduced_next)
