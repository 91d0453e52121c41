use Rattle.decoding.proofs.Steps.RootsFound.{Standing, places_left}
use Rattle.decoding.proofs.root_search.roots.Given as goal

abbrev pub invariant-loop-next : goal.invariant-loop-next
invariant-loop-next l = Standing l.field.exp.now l.field.log.now l.initial.quotient l.n l.next l.p l.quotient

abbrev pub decreases-loop-next : goal.decreases-loop-next
decreases-loop-next l = places_left l.n l.next
