use borrow.Author.Rules.{rules}
use Rattle.inner_words.proofs.Passes.TakenCandidates.{failing_is}
use Rattle.inner_words.proofs.candidates.failing.Goals as goal

pub returns : goal.returns
returns c = search (rules, failing_is)
