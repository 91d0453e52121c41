use Rattle.decoding.proofs.Steps.Search.{TermsBelow}
use Rattle.decoding.proofs.root_search.terms_at.Given as goal

abbrev pub invariant-loop-d : goal.invariant-loop-d
invariant-loop-d l = TermsBelow l.field.exp.now l.field.log.now l.polynomial l.x l.d l.t l.power
