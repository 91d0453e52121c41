use borrow.Author.Rules.{rules}
use Rattle.fields.proofs.Places.Filling.{filled_end}
use Rattle.frames.specs.Steps.Symbols.{part_from}
use Rattle.frames.proofs.outer_words.receive_last.Goals as goal

pub returns : goal.returns
unfolding part_from
returns c = search (rules, filled_end)
