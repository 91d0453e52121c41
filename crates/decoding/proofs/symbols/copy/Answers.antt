use borrow.Author.Rules.{rules}
use Rattle.decoding.proofs.Steps.Symbols.{copied_not, copied_next, copied_end}
use Rattle.decoding.proofs.symbols.copy.Goals as goal

pub returns-then-out-word : goal.returns-then-out-word
returns-then-out-word g c = search (rules, copied_not)

pub loop-i-preserved : goal.loop-i-preserved
loop-i-preserved g c = search (rules, copied_next)

pub returns : goal.returns
returns g c = search (rules, copied_end)
