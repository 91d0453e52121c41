use Rattle.g709.proofs.Overlays.{OverTo}
use Rattle.g709.proofs.ColumnSyndromes.{new_value}
use Rattle.g709.proofs.syndromes.next_value.Given as goal

abbrev pub invariant-loop-l : goal.invariant-loop-l
invariant-loop-l l = OverTo l.initial.s l.n 16 (new_value l.initial.s l.rest l.m l.n l.y) l.l l.s
