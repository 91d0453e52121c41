use Rattle.words.proofs.Steps.Joining.{packs_start, register_high, packs_step, packs_all}
use borrow.Author.Rules.{rules}
use Rattle.words.proofs.packed.divide.Goals as goal

pub loop-k-init : goal.loop-k-init
loop-k-init c = search (rules, packs_start)

pub next-p-requires : goal.next-p-requires
next-p-requires c = search (rules, register_high)

pub loop-k-preserved : goal.loop-k-preserved
loop-k-preserved c = search (rules, packs_step)

pub returns : goal.returns
returns c = search (rules, packs_all)
