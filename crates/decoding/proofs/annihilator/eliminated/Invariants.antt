use Rattle.decoding.proofs.Decoding.Elimination.{Pivots}
use Rattle.decoding.proofs.annihilator.eliminated.Given as goal

abbrev pub invariant-loop-d : goal.invariant-loop-d
invariant-loop-d l = Pivots l.field.exp.now l.field.log.now l.t l.d l.pivots
