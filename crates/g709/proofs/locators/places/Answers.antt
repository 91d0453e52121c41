use Rattle.g709.proofs.Locating.{placing_start, placing_next}
use borrow.Author.Rules.{rules}
use Rattle.g709.proofs.locators.places.Goals as goal

pub loop-i-init : goal.loop-i-init
loop-i-init c = search (rules, placing_start)

pub loop-i-preserved : goal.loop-i-preserved
loop-i-preserved c = search (rules, placing_next)
