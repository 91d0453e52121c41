use Rattle.decoding.proofs.Steps.Elimination.{PowerRow}
use Rattle.decoding.proofs.annihilator.power_row.Given as goal

abbrev pub invariant-loop-i : goal.invariant-loop-i
invariant-loop-i l = PowerRow l.field.exp.now l.field.log.now l.t l.d l.i l.cells
