use Rattle.words.proofs.Steps.Joining.{sum_six}
use borrow.Author.Rules.{rules}
use Rattle.words.proofs.packed.Packed.next.Goals as goal

pub six_parity-p-requires : goal.six_parity-p-requires
six_parity-p-requires c = search (rules, sum_six)
