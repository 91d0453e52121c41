use borrow.Author.Rules.{rules}
use Rattle.decoding.proofs.Steps.Elimination.{power_end}
use Rattle.decoding.proofs.annihilator.power_row.Goals as goal

pub returns : goal.returns
returns c = search (rules, power_end)
