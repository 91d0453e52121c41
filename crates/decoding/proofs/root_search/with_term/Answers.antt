use borrow.Author.Rules.{rules}
use Rattle.decoding.proofs.Steps.Search.{term_zero, term_new}
use Rattle.decoding.proofs.root_search.with_term.Goals as goal

pub returns-then-value-eq0 : goal.returns-then-value-eq0
returns-then-value-eq0 c = search (rules, term_zero)

pub returns : goal.returns
returns c = search (rules, term_new)
