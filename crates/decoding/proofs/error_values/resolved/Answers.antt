use borrow.Author.Rules.{rules}
use Rattle.decoding.proofs.Steps.Errors.{resolved_made}
use Rattle.decoding.proofs.error_values.resolved.Goals as goal

pub returns : goal.returns
returns c = search (rules, resolved_made)
