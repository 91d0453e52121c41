use borrow.Author.Rules.{rules}
use Rattle.inner_words.proofs.ParityPlaces.ParityBits.{places_made}
use Rattle.inner_words.proofs.parity_places.Goals as goal

pub returns : goal.returns
returns c = search (rules, places_made)
