use borrow.Author.Rules.{rules}
use Rattle.inner_words.proofs.ParityPlaces.ParitySteps.{places_end}
use Rattle.inner_words.proofs.parity.from_residues.Goals as goal

pub returns : goal.returns
returns c = search (rules, places_end)
