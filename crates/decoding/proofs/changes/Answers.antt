use borrow.Author.Rules.{rules}
use Rattle.decoding.proofs.Decoding.Changes.{change_before, change_after}
use Rattle.decoding.proofs.Steps.Errors.{change_not, change_so}
use Rattle.decoding.proofs.changes.Goals as goal
use Rattle.decoding.proofs.changes.Goals.{else-from-place-via-then-from-place+then-place-to+else-value-ne0, else-from-place-via-then-from-place+else-place-to, else-from-place-via-else-from-place}

pub returns-then-value-ne0 : goal.returns-then-value-ne0
returns-then-value-ne0 c = search (rules, change_so)

pub returns-else-from-place : goal.returns-else-from-place
returns-else-from-place c =
    elim c.else-from-place.branch [
      | else-from-place-via-then-from-place+then-place-to+else-value-ne0 w ↦ search (rules, change_not)
      | else-from-place-via-then-from-place+else-place-to w ↦ search (rules, change_after)
      | else-from-place-via-else-from-place w ↦ search (rules, change_before)
    ]
