use Rattle.fields.proofs.Places.Filling.{filled_next}
use Rattle.inner_words.proofs.Remainders.ResidueSteps.{each_factor, residue_cell, residues_end}
use Rattle.inner_words.proofs.residues.residues.Goals as goal

pub loop-c-preserved : goal.loop-c-preserved
loop-c-preserved c =
    let each = each_factor _ _ c.residue.ensures c.residue-2.ensures c.residue-3.ensures c.residue-4.ensures c.residue-5.ensures c.residue-6.ensures
    c.residue-7.ensures c.residue-8.ensures in
    filled_next c.loop-c.invariant c.loop-c-test.true (residue_cell _ _ c.loop-c.c _ each c.loop-c-test.true c.swap_bytes.ensures)

pub returns : goal.returns
returns c = residues_end _ _ _ _ c.loop-c.invariant c.loop-c-test.false
