use Rattle.std.proofs.Common.{arith}
use Rattle.inner_words.proofs.Remainders.InnerResidues.{none_residue}
use Rattle.inner_words.proofs.Remainders.ResidueSteps.{residue_step}
use Rattle.inner_words.proofs.factor_residues.residue.Goals as goal

pub loop-p-init : goal.loop-p-init
loop-p-init g c j e = none_residue j c.args.bytes.now

pub loop-p-preserved : goal.loop-p-preserved
loop-p-preserved g c j e = residue_step j _ _ c.args.bytes.now e c.step-s.ensures (c.loop-p.invariant j e) (omega arith)

pub loop-k-preserved : goal.loop-k-preserved
loop-k-preserved g c j e = residue_step j _ _ c.args.bytes.now e c.step-s-in-loop-k.ensures (c.loop-k.invariant j e) (omega arith)
