use Rattle.fields.proofs.Places.Tests.{below_take}
use Rattle.words.proofs.Steps.Joining.{packs_remainder}
use borrow.Author.Rules.{rules}
use Rattle.words.proofs.packed.remainder.Goals as goal

pub divide-p-requires : goal.divide-p-requires
divide-p-requires c = search (rules, below_take)

pub returns : goal.returns
returns c = search (rules, packs_remainder)
