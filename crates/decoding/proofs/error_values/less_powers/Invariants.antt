use Rattle.decoding.proofs.Steps.Flips.{LessPowers}
use Rattle.decoding.proofs.error_values.less_powers.Given as goal

abbrev pub invariant-loop-j : goal.invariant-loop-j
invariant-loop-j l = LessPowers l.field.exp.now l.e l.t l.j l.s l.k
