use Rattle.fields.specs.Elements.{xor}
use Rattle.words.proofs.Steps.Corrections.{added_here, added_past}
use borrow.Author.Rules.{rules}
use Rattle.g709.proofs.corrector.add.Goals as goal

pub returns-then-i-out : goal.returns-then-i-out
unfolding xor
returns-then-i-out c = search (rules, added_here)

pub returns-else-i-out : goal.returns-else-i-out
returns-else-i-out c = search (rules, added_past)
