use Rattle.words.proofs.Steps.Joining.{bit_few, bit_width, bit_start, bit_next}
use borrow.Author.Rules.{rules}
use Rattle.words.proofs.digit_table.store_bit.Goals as goal

pub loop-v-init : goal.loop-v-init
loop-v-init c = search (rules, bit_few, bit_width, bit_start)

pub loop-v-preserved : goal.loop-v-preserved
loop-v-preserved c = search (rules, bit_next)
