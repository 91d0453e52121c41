use Rattle.inner_words.proofs.Passes.WordErrors.{adding_start, adding_next, adding_end}
use borrow.Author.Rules.{rules}
use Rattle.inner_words.proofs.odd_syndromes.odd_syndrome.Goals as goal

pub loop-i-init : goal.loop-i-init
loop-i-init c = search (rules, adding_start)

pub loop-i-preserved : goal.loop-i-preserved
loop-i-preserved c = search (rules, adding_next)

pub returns : goal.returns
returns c = search (rules, adding_end)
