use Rattle.words.proofs.Steps.Joining.{digit_start, unit_entry, unit_within}
use borrow.Author.Rules.{rules}
use Rattle.words.proofs.digit_table.store_digit.Goals as goal

pub loop-b-init : goal.loop-b-init
loop-b-init c = search (rules, digit_start)

pub bounds-units-r : goal.bounds-units-r
bounds-units-r c = search (rules, unit_within)

pub store_bit-requires : goal.store_bit-requires
store_bit-requires c = search (rules, unit_entry)
