use borrow.Author.Rules.{rules}
use Rattle.decoding.proofs.Decoding.LinearRoot.{coefficient_exponent, all_roots, constant_none, zero_none, front_none, before_none, root_here}
use Rattle.decoding.proofs.root_search.linear_root.Goals as goal

pub returns-then-i-n : goal.returns-then-i-n
returns-then-i-n c = search (rules, all_roots)

pub returns-then-c-eq0 : goal.returns-then-c-eq0
returns-then-c-eq0 c = search (rules, constant_none)

pub returns-then-d-eq0-2 : goal.returns-then-d-eq0-2
returns-then-d-eq0-2 c = search (rules, zero_none)

pub less-e-requires : goal.less-e-requires
less-e-requires c = search (rules, coefficient_exponent)

pub returns-then-n-e : goal.returns-then-n-e
returns-then-n-e c = search (rules, front_none)

pub returns-then-r-i : goal.returns-then-r-i
returns-then-r-i c = search (rules, before_none)

pub returns-else-r-i : goal.returns-else-r-i
returns-else-r-i c = search (rules, root_here)
