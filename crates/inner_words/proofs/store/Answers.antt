use borrow.Author.Rules.{rules}
use Rattle.inner_words.proofs.ParityPlaces.Stored.{storing_next, storing_end}
use Rattle.inner_words.proofs.store.Goals as goal

pub loop-q-preserved : goal.loop-q-preserved
loop-q-preserved c = search (rules, storing_next)

pub returns : goal.returns
returns c = search (rules, storing_end)
