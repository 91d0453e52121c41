use Rattle.words.proofs.Steps.Joining.{parity_unpacked}
use borrow.Author.Rules.{rules}
use Rattle.words.proofs.packed.parity.Goals as goal

pub returns : goal.returns
returns c = search (rules, parity_unpacked)
