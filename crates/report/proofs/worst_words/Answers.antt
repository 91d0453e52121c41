use Rattle.std.proofs.Common.{rules, ap, ◌∙◌, subst, take_all}
use Rattle.std.specs.Io.KnownBytes.{Appends}
use Rattle.report.specs.Printed.{inner_lines, listed}
use Rattle.report.proofs.Written.{appends_nothing, appends_then}
use Rattle.report.proofs.Lines.{lines_next}
use Rattle.report.proofs.worst_words.Goals as goal

pub loop-k-init : goal.loop-k-init
unfolding inner_lines
loop-k-init g c = appends_nothing _

pub loop-k-preserved : goal.loop-k-preserved
loop-k-preserved g c =
    subst (Appends _ _) (lines_next _ c.worst_words-k-items.result c.loop-k.k-index c.from.result (search rules) c.from.ensures)
    (appends_then _ _ _ _ _ c.loop-k.invariant c.in_ok-inner_word.ensures)

pub returns : goal.returns
unfolding listed
returns g c =
    subst (Appends _ _) (ap (inner_lines _) (take_all c.loop-k.k-index c.worst_words-k-items.result (search rules) ∙ c.worst_words-k-items.ensures)) c.loop-k.invariant
