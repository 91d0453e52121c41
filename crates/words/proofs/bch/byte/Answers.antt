use borrow.Author.Rules.{rules}
use Rattle.words.proofs.Steps.FourPlaces.{byte_made}
use Rattle.words.proofs.bch.byte.Goals as goal

pub returns : goal.returns
returns c = search (rules, byte_made)
