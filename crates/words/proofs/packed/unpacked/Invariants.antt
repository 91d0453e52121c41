use Rattle.fields.proofs.Places.Filling.{Filled}
use Rattle.words.proofs.Steps.Joining.{cell_of}
use Rattle.words.proofs.packed.unpacked.Given as goal

abbrev pub invariant-loop-i : goal.invariant-loop-i
invariant-loop-i l = Filled 16 (cell_of l.fn.p.high l.fn.p.middle l.fn.p.low) l.i l.cells
