use borrow.Author.Rules.{rules}
use Rattle.words.specs.InnerCode.{factors}
use Rattle.words.proofs.bch.factor.Goals as goal

pub returns : goal.returns
unfolding factors
returns c = search rules
