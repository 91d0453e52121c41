use mathlib.Core.Path.{refl}
use borrow.Author.Rules.{rules}
use Rattle.decoding.proofs.Steps.Search.{moved_none, term_inside, term_step_inside, term_moved, term_steps}
use Rattle.decoding.proofs.root_search.next_value.Goals as goal

pub loop-l-init : goal.loop-l-init
loop-l-init c = (search (rules, moved_none), refl)

pub offset_bounds-field-term : goal.offset_bounds-field-term
offset_bounds-field-term c = search (rules, term_inside)

pub bounds-field-term : goal.bounds-field-term
bounds-field-term c = search (rules, term_inside)

pub less-requires : goal.less-requires
less-requires c = (search (rules, term_inside), search (rules, term_step_inside))

pub loop-l-preserved : goal.loop-l-preserved
loop-l-preserved c = (search (rules, term_moved), search (rules, term_steps))
