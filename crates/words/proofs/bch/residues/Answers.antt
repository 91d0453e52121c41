use borrow.Author.Rules.{rules}
use Rattle.words.proofs.Steps.FourPlaces.{residues_end}
use Rattle.words.proofs.bch.residues.Goals as goal

pub returns : goal.returns
returns c = search (rules, residues_end)
