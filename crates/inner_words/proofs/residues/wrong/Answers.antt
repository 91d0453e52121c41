use borrow.Author.Rules.{rules}
use Rattle.lanes.proofs.Sliced.{some_none, some_next}
use Rattle.inner_words.proofs.residues.wrong.Goals as goal

pub loop-residue-init : goal.loop-residue-init
loop-residue-init c = search (rules, some_none)

pub loop-residue-preserved : goal.loop-residue-preserved
loop-residue-preserved c = search (rules, some_next)
