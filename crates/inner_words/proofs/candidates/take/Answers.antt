use borrow.Author.Rules.{rules}
use Rattle.inner_words.proofs.Passes.TakenCandidates.{taken_left, taken_nearer}
use Rattle.inner_words.proofs.candidates.take.Goals as goal

pub returns : goal.returns
returns c = (search (rules, taken_left), search (rules, taken_nearer))
