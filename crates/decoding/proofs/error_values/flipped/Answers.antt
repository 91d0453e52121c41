use borrow.Author.Rules.{rules}
use Rattle.decoding.proofs.Steps.Flips.{flipped_made}
use Rattle.decoding.proofs.error_values.flipped.Goals as goal

pub returns : goal.returns
returns c = search (rules, flipped_made)
