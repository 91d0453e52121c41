use borrow.Author.Rules.{rules}
use Rattle.decoding.specs.Steps.Annihilator.{FirstNonzero}
use Rattle.decoding.proofs.Steps.Elimination.{first_found}
use Rattle.decoding.proofs.Decoding.Elimination.{pivots_start, pivots_end, row_annihilates, pivots_next}
use Rattle.decoding.proofs.annihilator.eliminated.Goals as goal

pub loop-d-init : goal.loop-d-init
loop-d-init c = search (rules, pivots_start)

pub returns-then-j-eq-RADIUS : goal.returns-then-j-eq-RADIUS
returns-then-j-eq-RADIUS c =
    let z = c.leading_zeros-j.ensures in
    let first : FirstNonzero c.reduce.new.u c.leading_zeros-j.result = first_found c.reduce.new.u c.leading_zeros-j.result (search rules) z.0 z.1 z.2 in
    search (rules, row_annihilates, first)

pub loop-d-preserved : goal.loop-d-preserved
loop-d-preserved c =
    let z = c.leading_zeros-j.ensures in
    let first : FirstNonzero c.reduce.new.u c.leading_zeros-j.result = first_found c.reduce.new.u c.leading_zeros-j.result (search rules) z.0 z.1 z.2 in
    search (rules, pivots_next, first)

pub returns : goal.returns
returns c = search (rules, pivots_end)
