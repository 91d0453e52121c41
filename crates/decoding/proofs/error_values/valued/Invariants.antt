use Rattle.decoding.proofs.Decoding.Completeness.{Resolving}
use Rattle.decoding.proofs.error_values.valued.Given as goal

abbrev pub invariant-loop-k : goal.invariant-loop-k
invariant-loop-k l = Resolving l.field.exp.now l.field.log.now l.initial.e.left l.n l.initial.e.places l.e l.k
